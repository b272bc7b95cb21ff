-- The law of the definitions.
use Rattle.babel_prefix.proofs.ShortLaws.{shortest}
use Rattle.babel_prefix.proofs.laws.short_is_shortest.Goals as goal

pub returns : goal.returns
returns c = shortest
