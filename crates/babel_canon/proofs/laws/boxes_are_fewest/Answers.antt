use Rattle.babel_canon.proofs.Fewest.{boxes_are_fewest}
use Rattle.babel_canon.proofs.laws.boxes_are_fewest.Goals as goal

pub returns : goal.returns
returns c = boxes_are_fewest
