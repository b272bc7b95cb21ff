-- It has those of the routes so far.
use Rattle.std.proofs.Common.{◌≡◌, take}
use Rattle.babel_dump.specs.SelectTold.{used_keys}
use Rattle.babel_dump.proofs.told_routes.used_keys.Given as goal

abbrev pub invariant-loop-route : goal.invariant-loop-route
invariant-loop-route l = l.keys.items ≡ used_keys l.pair (take l.route-index l.routes)
