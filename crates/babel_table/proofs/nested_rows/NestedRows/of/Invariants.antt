-- How far the rows around each row so far reach.
use Rattle.std.proofs.Common.{◌≡◌, length}
use Rattle.std.specs.Map.{keys_of}
use Rattle.babel_table.specs.Nested.{IsNested}
use Rattle.babel_table.proofs.nested_rows.NestedRows.of.Given as goal

abbrev pub invariant-loop-place : goal.invariant-loop-place
invariant-loop-place g l = record { nested : IsNested g.W.Word.family (keys_of l.rows.items) l.around.items; long : length l.around.items ≡ l.place }
