use Rattle.std.proofs.Common.{◌≡◌, ◌++◌, ◌∙◌, [], List, length, ap, sym, append-nil, eqb-true}
use Rattle.std.proofs.lemmas.List.{nil_from_length}
use Rattle.babel_selection.specs.declared.offers.ChosenRoute.{ChosenRoute}
use Rattle.babel_selection.specs.Offers.{chosen_rows}
use Rattle.babel_selection.proofs.OfferLaws.{first_chosen, none_chosen}
use Rattle.babel_selection.proofs.offers.chosen_routes.Goals as goal

pub keys-preserved : goal.keys-preserved
keys-preserved g c =
    first_chosen c.args.moment c.args.sources.now c.keys.rest.now c.of_first_key.result.0.now c.of_first_key.result.1.now
    c.keys.routes.items _ (chosen_rows c.args.moment c.args.sources.now c.args.offers.now)
    c.of_first_key.ensures.split c.in_ok-choose.ensures c.keys.invariant

pub returns : goal.returns
returns g c =
    let is_zero : length c.keys.rest.now ≡ 0 = eqb-true _ _ (cc) in
    let none : c.keys.rest.now ≡ [] = nil_from_length c.keys.rest.now is_zero in
    sym (append-nil c.keys.routes.items)
    ∙ ap (λ (l : List (ChosenRoute g.row.S.Denot)). c.keys.routes.items ++ l) (sym (ap (chosen_rows c.args.moment c.args.sources.now) none ∙ none_chosen c.args.moment c.args.sources.now))
    ∙ c.keys.invariant
