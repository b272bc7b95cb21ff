-- The rows so far and those that are left are all of them.
use Rattle.std.proofs.Common.{◌≡◌, ◌++◌, map}
use Rattle.babel_table.specs.Left.{rows_left}
use Rattle.babel_dump.specs.EachPair.{lone_row}
use Rattle.babel_dump.proofs.alone.lone_rows.Given as goal

abbrev pub invariant-loop-key : goal.invariant-loop-key
invariant-loop-key l = l.list.items ++ map (lone_row l.side) (rows_left l.key-iterator) ≡ map (lone_row l.side) l.table.rows
