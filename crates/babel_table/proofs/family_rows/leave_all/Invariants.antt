-- The rows so far are changed; the others are as they were.
use Rattle.std.proofs.Common.{◌≡◌, ◌++◌, take, drop}
use Rattle.babel_table.specs.Live.{kept_at}
use Rattle.babel_table.specs.Said.{said_as}
use Rattle.babel_table.proofs.family_rows.leave_all.Given as goal

abbrev pub invariant-loop-row : goal.invariant-loop-row
invariant-loop-row g l = l.rows ≡ said_as (kept_at l.moment) (take l.row-index l.fn.rows) ++ drop l.row-index l.fn.rows
