-- No rows stand at no places.
use Rattle.babel_table.proofs.SaidLaws.{counted-nothing}
use Rattle.babel_table.proofs.family_rows.FamilyRows.clear.Goals as goal

pub invariant_of-self : goal.invariant_of-self
invariant_of-self g c = rw c.clear.ensures.items (counted-nothing _)
