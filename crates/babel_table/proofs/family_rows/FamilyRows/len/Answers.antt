-- The keys that are listed rise.
use Rattle.babel_table.proofs.SaidLaws.{sorted-standing}
use Rattle.babel_table.proofs.family_rows.FamilyRows.len.Goals as goal

pub returns-clause-rising : goal.returns-clause-rising
returns-clause-rising g c = rw (← c.self.view_is) (sorted-standing c.self.inside.rows.items)
