-- What is listed, and behind it what is still to come.
use Rattle.babel_table.proofs.ListLaws.{IsListing}
use Rattle.babel_table.proofs.family_rows.FamilyRows.listed.Given as goal

abbrev pub invariant-loop-key : goal.invariant-loop-key
invariant-loop-key g l = IsListing l.wipes l.listed.items l.key-iterator.rest.items l.fn.self
