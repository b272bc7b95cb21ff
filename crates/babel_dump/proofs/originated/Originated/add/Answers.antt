use Rattle.std.proofs.Common.{[], ◌∷◌, subst, sym}
use Rattle.std.specs.Prelude.{OnOk}
use Rattle.babel_tlv.specs.declared.held.Held.{Held}
use Rattle.babel_dump.specs.Originated.{TakesMore}
use Rattle.babel_dump.proofs.OriginatedLaws.{on_ok, takes_route, takes_unreachable}
use Rattle.babel_dump.proofs.originated.Originated.add.Goals as goal

pub returns-in-Route : goal.returns-in-Route
returns-in-Route c =
    let before = c.args.self.now.all.entries in
    let after = c.add_route.new.self.all.entries in
    subst (λ (held : Held). OnOk c.add_route.result (TakesMore c.args.side ((c.args.key, held) ∷ []) before after)) (sym c.in-Route.is)
    (on_ok c.add_route.result c.add_route.ensures (takes_route c.args.side c.args.key c.in-Route.ann before after))

pub returns-in-Unreachable : goal.returns-in-Unreachable
returns-in-Unreachable c =
    let all = c.args.self.now.all.entries in
    subst (λ (held : Held). TakesMore c.args.side ((c.args.key, held) ∷ []) all all) (sym c.in-Unreachable.is) (takes_unreachable c.args.side c.args.key all)
