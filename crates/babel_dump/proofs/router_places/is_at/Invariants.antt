-- One of those so far sends there, or none.
use Rattle.std.proofs.Common.{◌≡◌, take}
use Rattle.babel_dump.specs.SelectOffers.{is_at}
use Rattle.babel_dump.proofs.router_places.is_at.Given as goal

abbrev pub invariant-loop-router : goal.invariant-loop-router
invariant-loop-router l = l.found ≡ is_at (take l.router-index l.router-items) l.gathered.senders l.place
