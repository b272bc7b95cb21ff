-- What is left of both lists stands behind the same rows.
use Rattle.std.proofs.Common.{length}
use Rattle.babel_trie.specs.Front.{AreBehind}
use Rattle.babel_trie.proofs.front.first_unshared.Given as goal

abbrev pub invariant-loop-row : goal.invariant-loop-row
invariant-loop-row g l =
    AreBehind (g.L.Rows.rows l.fn.left) (g.R.Rows.rows l.fn.right) (g.L.Rows.rows l.rest) (g.R.Rows.rows l.other_rest)

abbrev pub decreases-loop-row : goal.decreases-loop-row
decreases-loop-row g l = length (g.L.Rows.rows l.rest)
