-- The rows so far are seen; the others are as they were.
use Rattle.std.proofs.Common.{◌≡◌, ◌++◌, take, drop}
use Rattle.babel_table.specs.Seen.{seen_rows}
use Rattle.babel_table.proofs.nested_rows.see_rows.Given as goal

abbrev pub invariant-loop-row : goal.invariant-loop-row
invariant-loop-row g l = l.rows ≡ seen_rows l.view (take l.row-index l.fn.rows) ++ drop l.row-index l.fn.rows
