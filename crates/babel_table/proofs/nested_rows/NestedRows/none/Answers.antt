-- No rows are nested in no rows.
use Rattle.std.proofs.Common.{[], refl, arith}
use Rattle.std.specs.List.Sorted.{IsStrictlySortedBy}
use Rattle.babel_table.specs.TableRows.{AreRows}
use Rattle.babel_table.proofs.NestedLaws.{nested-none}
use Rattle.babel_table.proofs.nested_rows.NestedRows.none.Goals as goal

no_rows : AreRows []
unfolding IsStrictlySortedBy
no_rows = record { rising = tt; each = tt }

pub invariant_of-result : goal.invariant_of-result
invariant_of-result g c = rw (c.new.ensures.items, c.new-2.ensures.items) (nested-none g.W.Word.family [] no_rows tt, refl, omega arith)
