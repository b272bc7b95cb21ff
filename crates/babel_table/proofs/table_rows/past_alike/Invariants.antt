-- What both began with is passed by.
use Rattle.std.proofs.Common.{◌≡◌, ◌++◌, List, length}
use Rattle.babel_tlv.specs.Pair.{Pair}
use Rattle.babel_table.proofs.table_rows.past_alike.Given as goal

abbrev pub invariant-loop-left : goal.invariant-loop-left
invariant-loop-left g l = (alike : List Pair) × (l.fn.rows ≡ alike ++ l.left) × (l.fn.others ≡ alike ++ l.right)

abbrev pub decreases-loop-left : goal.decreases-loop-left
decreases-loop-left g l = length l.left
