-- What is left makes the rest of what all are.
use Rattle.std.proofs.Common.{◌≡◌, ◌++◌, length}
use Rattle.babel_selection.specs.Offers.{chosen_rows}
use Rattle.babel_selection.proofs.offers.chosen_routes.Given as goal

abbrev pub invariant-keys : goal.invariant-keys
invariant-keys g l = l.routes.items ++ chosen_rows l.moment l.sources l.rest ≡ chosen_rows l.moment l.sources l.offers

abbrev pub decreases-keys : goal.decreases-keys
decreases-keys g l = length l.rest
