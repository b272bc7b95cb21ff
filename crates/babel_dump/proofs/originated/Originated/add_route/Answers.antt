-- One that is there is written in its place.
use Rattle.std.proofs.Common.{rules, ◌≡◌, ℕ, List, Some, subst}
use Rattle.std.specs.BTreeMap.{is_at}
use Rattle.std.specs.Map.{lookup}
use Rattle.babel_dump.specs.Originated.{IsAnnouncedToo}
use Rattle.babel_dump.specs.contracts.originated.OriginationOrd.TheImpl.{ghosts}
use Rattle.babel_dump.specs.declared.originated.OnSides.{OnSides}
use Rattle.babel_dump.specs.declared.originated.Origination.{Origination}
use Rattle.babel_dump.proofs.OriginatedLaws.{announced_so, written_so}
use Rattle.babel_dump.proofs.originated.Originated.add_route.Goals as goal

pub returns-in-Some : goal.returns-in-Some
returns-in-Some c =
    let all = c.args.self.now.all.entries in
    let one : Origination = record { key = c.args.key; router_id = c.router_id-router_id.result } in
    let old : OnSides = c.in-Some.sides.now in
    let new : OnSides = c.in_ok-sides.field-0 in
    let after = (c.get_mut.follows.lender new).entries in
    let there : lookup (is_at (ghosts.cmp one)) all ≡ Some old = search rules in
    subst (λ (id : List ℕ). IsAnnouncedToo c.args.side (record { key = c.args.key; router_id = id }) c.args.ann.now.metric all after) c.router_id-router_id.ensures.value
    (subst (λ (metric : ℕ). IsAnnouncedToo c.args.side one metric all after) c.metric-metric.ensures.value
    (announced_so c.args.side one c.metric-metric.result all after (Some old) new there c.in_ok-sides.ensures
    (written_so all after one old new there c.get_mut.ensures.ordered (c.get_mut.follows.holds new).0)))
