use Rattle.babel_canon.proofs.OneVerdict.{verdict_is_one}
use Rattle.babel_canon.proofs.laws.verdict_is_one.Goals as goal

pub returns : goal.returns
returns c = verdict_is_one
