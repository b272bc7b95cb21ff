-- What was told first of the moment or later is added.
use Rattle.std.proofs.Common.{◌≡◌, ◌++◌, Some, take}
use Rattle.babel_dump.specs.EventsRun.{told_from}
use Rattle.babel_dump.proofs.since.add_from.Given as goal

abbrev pub invariant-loop-telling : goal.invariant-loop-telling
invariant-loop-telling l = l.told.items ≡ l.fn.told.items ++ told_from (Some l.moment) (take l.telling-index l.heard)
