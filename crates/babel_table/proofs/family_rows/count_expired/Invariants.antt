-- The rows so far are counted.
use Rattle.std.proofs.Common.{◌≡◌, ◌≤◌, take}
use Rattle.babel_table.specs.Live.{is_expired}
use Rattle.babel_table.specs.Said.{said_count}
use Rattle.babel_table.proofs.family_rows.count_expired.Given as goal

abbrev pub invariant-loop-row : goal.invariant-loop-row
invariant-loop-row g l = record {
  count : l.count ≡ said_count (is_expired l.moment) (take l.row-index l.rows);
  few : l.count ≤ l.row-index;
}
