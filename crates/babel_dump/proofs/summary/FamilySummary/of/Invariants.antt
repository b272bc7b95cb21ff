-- The rows so far that are kept were counted.
use Rattle.std.proofs.Common.{◌≡◌, ◌^◌, ◌<◌, ◌++◌, length}
use Rattle.babel_table.specs.Left.{rows_left}
use Rattle.babel_table.specs.TableRows.{family_rows}
use Rattle.babel_dump.specs.Filter.{kept_rows}
use Rattle.babel_dump.specs.Summary.{counts_of}
use Rattle.babel_dump.proofs.summary.FamilySummary.of.Given as goal

abbrev pub invariant-loop-key : goal.invariant-loop-key
invariant-loop-key l = record {
  whole : l.yielded ++ rows_left l.key-iterator ≡ family_rows l.fn.family l.fn.table.rows;
  counted : l.summary ≡ counts_of (kept_rows l.fn.filter l.yielded);
  few : length (family_rows l.fn.family l.fn.table.rows) < 2 ^ 64;
}
