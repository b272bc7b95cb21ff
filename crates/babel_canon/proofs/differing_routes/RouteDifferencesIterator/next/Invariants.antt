-- What differs is still all to come.
use Rattle.std.proofs.Common.{◌≡◌, length}
use Rattle.babel_canon.specs.Joined.{differences_left, joined_left}
use Rattle.babel_canon.proofs.differing_routes.RouteDifferencesIterator.next.Given as goal

abbrev pub invariant-loop-key : goal.invariant-loop-key
invariant-loop-key l = differences_left l.self ≡ differences_left l.fn.self

abbrev pub decreases-loop-key : goal.decreases-loop-key
decreases-loop-key l = length (joined_left l.self)
