-- The slots so far are taken.
use Rattle.babel_table.specs.Said.{AreTaken}
use Rattle.babel_table.proofs.places.free_slot.Given as goal

abbrev pub invariant-loop-step : goal.invariant-loop-step
invariant-loop-step l = AreTaken l.slots l.start l.step
