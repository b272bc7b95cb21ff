-- It is the last of those so far.
use Rattle.std.proofs.Common.{◌≡◌, take}
use Rattle.babel_dump.specs.SelectOffers.{stated_cost}
use Rattle.babel_dump.proofs.select_job.Select.stated_cost.Given as goal

abbrev pub invariant-loop-one : goal.invariant-loop-one
invariant-loop-one l = l.stated ≡ stated_cost (take l.one-index l.one-items) l.sender
