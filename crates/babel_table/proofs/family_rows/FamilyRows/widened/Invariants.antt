-- The rows so far that are not retracted.
use Rattle.std.proofs.Common.{◌≡◌, take}
use Rattle.std.specs.List.{filter}
use Rattle.babel_table.proofs.SaidLaws.{is_said}
use Rattle.babel_table.proofs.family_rows.FamilyRows.widened.Given as goal

abbrev pub invariant-loop-key : goal.invariant-loop-key
invariant-loop-key g l = l.rows.items ≡ filter is_said (take l.key-index l.key-items)
