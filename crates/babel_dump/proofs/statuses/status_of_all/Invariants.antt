-- It is that of the statuses so far.
use Rattle.std.proofs.Common.{◌≡◌, take}
use Rattle.babel_dump.specs.RunText.{status_of_all}
use Rattle.babel_dump.proofs.statuses.status_of_all.Given as goal

abbrev pub invariant-loop-status : goal.invariant-loop-status
invariant-loop-status l = l.of_all ≡ status_of_all (take l.status-index l.statuses)
