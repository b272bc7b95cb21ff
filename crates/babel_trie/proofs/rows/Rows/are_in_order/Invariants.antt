-- Each row so far stands before the next, and the last one is known.
use Rattle.std.proofs.Common.{◌≡◌, ℕ, ◌+◌, ◌<◌, List, ◌++◌, length, get_or}
use Rattle.std.specs.List.{All}
use Rattle.babel_prefix.specs.Entries.{Entry}
use Rattle.babel_prefix.specs.BestRow.{HasPrefixes}
use Rattle.babel_trie.specs.Held.{RowOrder, row_place}
use Rattle.babel_trie.proofs.rows.Rows.are_in_order.Given as goal

abbrev pub invariant-loop-row : goal.invariant-loop-row
invariant-loop-row g l = record {
  gone : List (Entry g.row.V.Denot);
  parts : g.Self.Rows.rows l.fn.self ≡ gone ++ g.Self.Rows.rows l.left;
  adjacent : (k : ℕ) (d : Entry g.row.V.Denot) → k + 1 < length gone → RowOrder (get_or (g.Self.Rows.rows l.fn.self) k d) (get_or (g.Self.Rows.rows l.fn.self) (k + 1) d);
  last : (k : ℕ) (d : Entry g.row.V.Denot) → k + 1 ≡ length gone → l.before ≡ row_place (get_or (g.Self.Rows.rows l.fn.self) k d);
  prefixes : All HasPrefixes gone;
}

abbrev pub decreases-loop-row : goal.decreases-loop-row
decreases-loop-row g l = length (g.Self.Rows.rows l.left)
