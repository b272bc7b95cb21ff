-- The rows that are passed over don't reach the address.
use Rattle.std.proofs.Common.{◌≡◌, filter, length}
use Rattle.babel_trie.specs.Front.{reaches}
use Rattle.babel_trie.proofs.front.ReachingRows.split.Given as goal

abbrev pub invariant-loop-row : goal.invariant-loop-row
invariant-loop-row g l =
    filter (reaches l.fn.self.width l.fn.self.at) (g.R.Rows.rows l.fn.self.rows)
    ≡ filter (reaches l.fn.self.width l.fn.self.at) (g.R.Rows.rows l.left)

abbrev pub decreases-loop-row : goal.decreases-loop-row
decreases-loop-row g l = length (g.R.Rows.rows l.left)
