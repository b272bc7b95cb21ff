use Rattle.std.proofs.Common.{◌≡◌, ◌++◌, length}
use Rattle.babel_table.specs.Left.{rows_left}
use Rattle.babel_table.specs.TableRows.{family_rows}
use Rattle.babel_canon.specs.Values.{AreNumbered, AreNumberedEntries, KeepsValues, packed_entries}
use Rattle.babel_canon.proofs.grids.family_values.Given as goal

abbrev pub invariant-loop-key : goal.invariant-loop-key
invariant-loop-key l = record {
  numbered : AreNumbered l.values.list.items l.values.numbers;
  keeps : KeepsValues l.fn.values.list.items l.values.list.items;
  whole : l.yielded ++ rows_left l.key-iterator ≡ family_rows l.fn.family l.fn.table.rows;
  as_many : length l.packed.items ≡ length l.yielded;
  entries : AreNumberedEntries l.fn.family l.yielded l.values.list.items (packed_entries l.yielded l.packed.items);
}
