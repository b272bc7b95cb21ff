-- Word by word.
use Rattle.babel_table.proofs.LastLaws.{plain-last}
use Rattle.babel_table.proofs.laws.plain_is_last.Goals as goal

pub returns : goal.returns
returns c = λ factor moment told key. plain-last factor moment told key
