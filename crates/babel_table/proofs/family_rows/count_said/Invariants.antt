-- The rows so far are counted.
use Rattle.std.proofs.Common.{◌≡◌, ◌≤◌, take}
use Rattle.std.specs.Prelude.{count_by, is_some}
use Rattle.babel_table.proofs.family_rows.count_said.Given as goal

abbrev pub invariant-loop-row : goal.invariant-loop-row
invariant-loop-row g l = record {
  count : l.count ≡ count_by (λ word. is_some word.1) (take l.row-index l.rows);
  few : l.count ≤ l.row-index;
}
