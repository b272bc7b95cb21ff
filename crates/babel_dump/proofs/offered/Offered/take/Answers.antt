use Rattle.std.proofs.Common.{subst, ap, ◌≡◌, ◌++◌, ◌∙◌, rules, true, false}
use Rattle.babel_dump.specs.ToldOrigins.{OwnRoutes}
use Rattle.babel_dump.proofs.SelectOffers.{Offering, Offers, is_beside, offering_all, offering_more, offering_none, offering_past, offers_kept}
use Rattle.babel_dump.proofs.ToldSenders.{Entries}
use Rattle.babel_dump.proofs.offered.Offered.take.Goals as goal

pub loop-origin-init : goal.loop-origin-init
loop-origin-init c =
    let captured = c.args.captured.now in
    let gives = c.into_iter-origin-iterator.ensures.into_iter_gives in
    offering_none c.args.costs.now captured.each.now captured.read.now c.args.tables.entries c.args.self.now.offers.items _ gives.0 gives.5

pub loop-origin-preserved-then-is_at : goal.loop-origin-preserved-then-is_at
loop-origin-preserved-then-is_at c =
    let captured = c.args.captured.now in
    let costs = c.args.costs.now in
    let own = c.in_ok-table.table in
    let one : OwnRoutes = record { origin = c.in-Some.origin; table = own } in
    let before = c.args.self.now.offers.items in
    let now = c.loop-origin.self.offers.items in
    let after = c.offer.new.self.offers.items in
    let here : is_beside costs c.in-Some.origin ≡ true = search rules in
    offering_more costs captured.each.now captured.read.now c.args.tables.entries before c.in-Some.origin c.in-Some.table _ own now after here
    (subst (λ (left : Entries). Offering costs captured.each.now captured.read.now c.args.tables.entries left before now) c.in-Some.ensures.steps c.loop-origin.invariant)
    c.in_ok-table.ensures.own c.in_ok-table.ensures.strict
    (c.in_ok-offer.ensures ∙ ap (λ (l : Offers). l ++ offers_kept costs one) (ap (λ o. o.items) c.in_ok-table.ensures.same))

pub loop-origin-preserved : goal.loop-origin-preserved
loop-origin-preserved c =
    let captured = c.args.captured.now in
    let costs = c.args.costs.now in
    let before = c.args.self.now.offers.items in
    let now = c.loop-origin.self.offers.items in
    let past : is_beside costs c.in-Some.origin ≡ false = search rules in
    offering_past costs captured.each.now captured.read.now c.args.tables.entries before c.in-Some.origin c.in-Some.table _ now past
    (subst (λ (left : Entries). Offering costs captured.each.now captured.read.now c.args.tables.entries left before now) c.in-Some.ensures.steps c.loop-origin.invariant)

pub returns-clause-taken : goal.returns-clause-taken
returns-clause-taken c =
    let captured = c.args.captured.now in
    offering_all c.args.costs.now captured.each.now captured.read.now c.args.tables.entries c.args.self.now.offers.items c.loop-origin.origin-iterator _
    c.in-None.ensures.steps.0 c.loop-origin.invariant
