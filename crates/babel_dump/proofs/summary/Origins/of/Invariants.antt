-- Those of the rows so far that are kept.
use Rattle.std.proofs.Common.{◌≡◌, ◌++◌}
use Rattle.babel_table.specs.Left.{rows_left}
use Rattle.babel_dump.specs.Filter.{kept_rows}
use Rattle.babel_dump.specs.Origins.{AreOrigins}
use Rattle.babel_dump.proofs.summary.Origins.of.Given as goal

abbrev pub invariant-loop-key : goal.invariant-loop-key
invariant-loop-key l = record {
  whole : l.yielded ++ rows_left l.key-iterator ≡ l.fn.table.rows;
  are : AreOrigins l.origins (kept_rows l.fn.filter l.yielded);
}
