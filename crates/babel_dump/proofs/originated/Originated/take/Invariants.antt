-- The rows so far that are kept were taken.
use Rattle.std.proofs.Common.{◌≡◌, ◌++◌}
use Rattle.babel_table.specs.Left.{rows_left}
use Rattle.babel_dump.specs.Filter.{kept_rows}
use Rattle.babel_dump.specs.Originated.{TakesMore}
use Rattle.babel_dump.proofs.originated.Originated.take.Given as goal

abbrev pub invariant-loop-key : goal.invariant-loop-key
invariant-loop-key l = record {
  whole : l.yielded ++ rows_left l.key-iterator ≡ l.fn.table.rows;
  takes : TakesMore l.fn.side (kept_rows l.fn.filter l.yielded) l.fn.self.all.entries l.self.all.entries;
}
