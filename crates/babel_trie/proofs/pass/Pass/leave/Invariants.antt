-- It stays a pass over its rows, and a change that was ahead up to the address is so or is gone.
use Rattle.std.proofs.Common.{◌≡◌, ◌⊎◌, ℕ, ◌<◌, ◌≤◌, List, length, Option}
use Rattle.babel_prefix.specs.Entries.{Entry}
use Rattle.babel_trie.specs.Pass.{IsPassOver, ahead_of}
use Rattle.babel_trie.specs.Runs.{StartAfter}
use Rattle.babel_trie.specs.declared.table.Node.{Node}
use Rattle.babel_trie.proofs.pass.Pass.leave.Given as goal

abbrev pub invariant-loop-next : goal.invariant-loop-next
invariant-loop-next g l = record {
  pass : (w : ℕ) (rows : List (Entry g.row.V.Denot)) (nodes : List (Node (Option g.row.V.Denot))) → IsPassOver w g.R.Rows.rows rows nodes l.fn.self → IsPassOver w g.R.Rows.rows rows nodes l.self;
  reached : l.self.now.start ≤ l.at;
  rest : l.self.rest ≡ l.fn.self.rest;
  few : length l.self.ahead.items ≤ length l.fn.self.ahead.items;
  fewer : (StartAfter l.at (ahead_of l.fn.self) → ⊥) → (StartAfter l.at (ahead_of l.self) → ⊥) ⊎ (length l.self.ahead.items < length l.fn.self.ahead.items);
}

abbrev pub decreases-loop-next : goal.decreases-loop-next
decreases-loop-next g l = length l.self.ahead.items
