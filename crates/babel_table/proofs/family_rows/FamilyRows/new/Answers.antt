-- No rows stand at no places.
use Rattle.babel_table.proofs.SaidLaws.{counted-nothing}
use Rattle.babel_table.proofs.family_rows.FamilyRows.new.Goals as goal

pub invariant_of-result : goal.invariant_of-result
invariant_of-result g c = rw c.new.ensures.items (counted-nothing _)
