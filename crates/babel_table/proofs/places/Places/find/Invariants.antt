-- The slots so far are taken, and none has the key's place.
use Rattle.std.proofs.Common.{ℕ, ◌+◌, ◌<◌}
use Rattle.std.specs.Map.{keys_of}
use Rattle.babel_table.proofs.PlaceLaws.{IsPassed}
use Rattle.babel_table.proofs.places.Places.find.Given as goal

abbrev pub invariant-loop-step : goal.invariant-loop-step
invariant-loop-step g l = (before : ℕ) → before < l.step → IsPassed (keys_of l.rows) l.self l.key (l.start + before)
