use Rattle.std.proofs.Common.{◌≡◌, ◌+◌, ◌∷◌, List, false, take, drop, true}
use Rattle.babel_selection.specs.declared.offer.Offer.{Offer}
use Rattle.babel_selection.specs.Offers.{by_key}
use Rattle.babel_selection.proofs.OfferLaws.{all_are_one, are_alike, first_is_one, next_is_one, split_before}
use Rattle.babel_selection.proofs.offers.of_first_key.Goals as goal

pub alike-init : goal.alike-init
alike-init g c = first_is_one c.args.offers.now c.requires

pub alike-preserved : goal.alike-preserved
alike-preserved g c =
    let one : Offer g.row.S.Denot = c.index-offers-last.result in
    let next : Offer g.row.S.Denot = c.index-offers-last-in-alike.result in
    let alike : are_alike one next ≡ true = cc in
    next_is_one c.args.offers.now c.alike.last one next c.alike.invariant c.alike-test.true c.index-offers-last.is c.index-offers-last-in-alike.is alike

pub returns-then-not-are_one-clause-split : goal.returns-then-not-are_one-clause-split
returns-then-not-are_one-clause-split g c =
    let one : Offer g.row.S.Denot = c.index-offers-last.result in
    let next : Offer g.row.S.Denot = c.index-offers-last-in-alike.result in
    let offers : List (Offer g.row.S.Denot) = c.args.offers.now in
    let apart : are_alike one next ≡ false = cc in
    let split : by_key offers ≡ take (c.alike.last + 1) offers ∷ by_key (drop (c.alike.last + 1) offers) =
    split_before offers c.alike.last one next c.alike.invariant c.alike-test.true c.index-offers-last.is c.index-offers-last-in-alike.is apart in
    rw (c.split_at.ensures.front, c.split_at.ensures.back) split

pub returns-clause-split : goal.returns-clause-split
returns-clause-split g c = all_are_one c.args.offers.now c.alike.last c.alike.invariant c.alike-test.false
