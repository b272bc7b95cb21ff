-- The next row leads to a prefix with the destination, and no row past it has both addresses.
use Rattle.std.proofs.Common.{◌≢◌, ◌≤◌, ◌-◌, length}
use Rattle.std.specs.List.{HoldsAt}
use Rattle.std.specs.Map.{keys_of}
use Rattle.babel_table.specs.BestMatch.{ContainsBoth}
use Rattle.babel_table.specs.Nested.{LeadsTo, NoneWithin}
use Rattle.babel_table.proofs.nested_rows.best_place.Given as goal

abbrev pub invariant-loop-end : goal.invariant-loop-end
invariant-loop-end g l = record {
  within : l.end ≤ l.count;
  last : l.end ≢ 0 → HoldsAt (LeadsTo l.dst) (keys_of l.rows) (l.end - 1);
  none : NoneWithin (ContainsBoth l.dst l.fn.src) (keys_of l.rows) l.end (length (keys_of l.rows));
}

abbrev pub decreases-loop-end : goal.decreases-loop-end
decreases-loop-end g l = l.end
