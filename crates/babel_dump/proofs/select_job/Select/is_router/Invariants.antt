-- One of those so far is, or none.
use Rattle.std.proofs.Common.{◌≡◌, take}
use Rattle.babel_dump.specs.SelectHeard.{is_router}
use Rattle.babel_dump.proofs.select_job.Select.is_router.Given as goal

abbrev pub invariant-loop-router : goal.invariant-loop-router
invariant-loop-router l = l.found ≡ is_router (take l.router-index l.router-items) l.address
