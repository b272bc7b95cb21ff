-- It has the lines of the routes so far.
use Rattle.std.proofs.Common.{◌≡◌, flat_map, take}
use Rattle.babel_dump.specs.SelectTold.{route_line}
use Rattle.babel_dump.proofs.select.lines_of.Given as goal

abbrev pub invariant-loop-route : goal.invariant-loop-route
invariant-loop-route l = l.text.items ≡ flat_map (route_line l.format l.gathered l.told) (take l.route-index l.routes)
