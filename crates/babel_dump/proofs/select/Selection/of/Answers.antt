-- What is told is by what was read.
use Rattle.std.proofs.Common.{refl, ◌∙◌, ap, ◌≡◌, List, flat_map, rules}
use Rattle.std.specs.Map.{keys_of}
use Rattle.std.specs.Option.{unwrap_or}
use Rattle.babel_selection.specs.declared.offers.ChosenRoute.{ChosenRoute}
use Rattle.babel_dump.specs.PairsMade.{heard_in}
use Rattle.babel_dump.specs.SelectTold.{route_line, told_routes}
use Rattle.babel_dump.specs.declared.speaker.Speaker.{Speaker}
use Rattle.babel_dump.proofs.SelectTold.{tells_all}
use Rattle.babel_dump.proofs.select.Selection.of.Goals as goal

pub returns-clause-told : goal.returns-clause-told
returns-clause-told c = λ made whole own last are.
    let selecting = c.args.selecting in
    let select = c.args.select.now in
    let gathering = selecting.senders.read.gathered in
    let routes = c.in_ok-routes.routes.items in
    let told = c.in_ok-told.told in
    let at : c.unwrap_or-moment.result ≡ unwrap_or selecting.senders.read.moment 0 = search rules in
    let told_is : told ≡ told_routes select.filter select.pair routes = c.in_ok-told.ensures ∙ ap (λ (r : List (ChosenRoute Speaker)). told_routes select.filter select.pair r) c.deref.ensures.value in
    let text_is : c.in_ok-lines.lines.items ≡ flat_map (route_line select.each.format gathering told) routes =
    c.in_ok-lines.ensures ∙ ap (λ (r : List (ChosenRoute Speaker)). flat_map (route_line select.each.format gathering told) r) c.deref-3.ensures.value in
    tells_all select _ (heard_in selecting.senders.read made) (keys_of selecting.senders.tables.entries) c.unwrap_or-moment.result _ _ selecting.sources routes told c.in_ok-lines.lines.items c.status.result
    (c.in_ok-take.ensures.taken made whole own) refl refl c.ten_millionths.ensures refl at last c.new-offered.ensures are c.in_ok-routes.ensures told_is text_is c.status.ensures
