-- No row from the last one on leads to the destination from a prefix with the address.
use Rattle.std.proofs.Common.{◌≤◌}
use Rattle.std.specs.Map.{keys_of}
use Rattle.babel_table.specs.Nested.{LeadsFrom, NoneWithin}
use Rattle.babel_table.proofs.nested_rows.end_from.Given as goal

abbrev pub invariant-loop-last : goal.invariant-loop-last
invariant-loop-last g l = record { within : l.last ≤ l.end; none : NoneWithin (LeadsFrom l.key.dst l.key.src.address) (keys_of l.rows) l.last l.end }

abbrev pub decreases-loop-last : goal.decreases-loop-last
decreases-loop-last g l = l.last
