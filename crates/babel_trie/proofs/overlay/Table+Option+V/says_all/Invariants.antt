-- A row is left, or its sources have its value.
use Rattle.std.proofs.Common.{◌⊎◌, length}
use Rattle.babel_prefix.specs.Entries.{Entry}
use Rattle.babel_prefix.specs.Members.{Listed}
use Rattle.babel_trie.specs.Laid.{SaysOf}
use Rattle.babel_trie.proofs.overlay.Table+Option+V.says_all.Given as goal

abbrev pub invariant-loop-row : goal.invariant-loop-row
invariant-loop-row g l = (row : Entry g.row.V.Denot) → Listed l.rows row → Listed l.left row ⊎ SaysOf l.width l.self.nodes.items l.sources row

abbrev pub decreases-loop-row : goal.decreases-loop-row
decreases-loop-row g l = length l.left
