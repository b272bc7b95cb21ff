-- The laws of the definitions.
use Rattle.babel_prefix.proofs.ShortLaws.{short-text, one_short}
use Rattle.babel_prefix.proofs.laws.short_reads_back.Goals as goal

pub returns : goal.returns
returns c = record { back = short-text; one = one_short }
