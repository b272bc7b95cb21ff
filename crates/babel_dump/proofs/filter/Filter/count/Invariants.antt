-- So many were counted as are kept of the rows so far.
use Rattle.std.proofs.Common.{◌≡◌, ◌^◌, ◌<◌, ◌++◌, length}
use Rattle.babel_table.specs.Left.{rows_left}
use Rattle.babel_dump.specs.Filter.{kept_rows}
use Rattle.babel_dump.proofs.filter.Filter.count.Given as goal

abbrev pub invariant-loop-key : goal.invariant-loop-key
invariant-loop-key l = record {
  whole : l.yielded ++ rows_left l.key-iterator ≡ l.fn.table.rows;
  counted : l.count ≡ length (kept_rows l.fn.self l.yielded);
  few : length l.fn.table.rows < 2 ^ 64;
}
