-- Word by word.
use Rattle.babel_table.proofs.LastLaws.{hold-last}
use Rattle.babel_table.proofs.laws.hold_is_last.Goals as goal

pub returns : goal.returns
returns c = λ factor moment told rows are. hold-last factor moment told rows are
