use Rattle.babel_canon.proofs.Headline.{headline}
use Rattle.babel_canon.proofs.laws.canonical_octets_tell_answers.Goals as goal

pub returns : goal.returns
returns c = headline
