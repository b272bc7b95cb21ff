-- Those so far are added.
use Rattle.std.proofs.Common.{◌≡◌, ◌++◌, map, take}
use Rattle.std.specs.List.{filter}
use Rattle.babel_selection.specs.Offers.{chosen_route, own_chosen, owns_in}
use Rattle.babel_selection.proofs.offers.choose.Given as goal

abbrev pub invariant-loop-offer : goal.invariant-loop-offer
invariant-loop-offer g l =
    l.routes.items ≡ l.fn.routes.items ++ own_chosen l.choice l.offers
    ++ map (chosen_route l.moment l.sources l.choice (owns_in l.offers)) (filter (λ o. o.is_other) (take l.offer-index l.offers))
