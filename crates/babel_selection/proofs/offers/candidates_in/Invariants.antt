-- It has those so far.
use Rattle.std.proofs.Common.{◌≡◌, take}
use Rattle.babel_selection.specs.Offers.{candidates_in}
use Rattle.babel_selection.proofs.offers.candidates_in.Given as goal

abbrev pub invariant-loop-offer : goal.invariant-loop-offer
invariant-loop-offer g l = l.candidates.items ≡ candidates_in l.moment l.sources (take l.offer-index l.offers)
