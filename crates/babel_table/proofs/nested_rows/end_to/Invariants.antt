-- No row from the last one on leads to a prefix with the address.
use Rattle.std.proofs.Common.{◌≤◌}
use Rattle.std.specs.Map.{keys_of}
use Rattle.babel_table.specs.Nested.{LeadsTo, NoneWithin}
use Rattle.babel_table.proofs.nested_rows.end_to.Given as goal

abbrev pub invariant-loop-last : goal.invariant-loop-last
invariant-loop-last g l = record { within : l.last ≤ l.end; none : NoneWithin (LeadsTo l.key.dst.address) (keys_of l.rows) l.last l.end }

abbrev pub decreases-loop-last : goal.decreases-loop-last
decreases-loop-last g l = l.last
