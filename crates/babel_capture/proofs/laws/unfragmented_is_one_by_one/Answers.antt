use Rattle.babel_capture.proofs.UnfragmentedLaws.{unfragmented_is_one_by_one}
use Rattle.babel_capture.proofs.laws.unfragmented_is_one_by_one.Goals as goal

pub returns : goal.returns
returns c = unfragmented_is_one_by_one
