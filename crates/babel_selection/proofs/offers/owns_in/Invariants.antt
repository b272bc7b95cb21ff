-- It has those so far.
use Rattle.std.proofs.Common.{◌≡◌, take}
use Rattle.babel_selection.specs.Offers.{owns_in}
use Rattle.babel_selection.proofs.offers.owns_in.Given as goal

abbrev pub invariant-loop-offer : goal.invariant-loop-offer
invariant-loop-offer g l = l.owns.items ≡ owns_in (take l.offer-index l.offers)
