-- A Hello is taken, and the sender returns if it was silent.
use Rattle.std.proofs.Common.{◌≡◌, ◌∙◌, Some, false, refl, subst, sym, true}
use Rattle.babel_tlv.specs.Frames.{tlv_value}
use Rattle.babel_table.specs.Moments.{Stamp}
use Rattle.babel_timeline.specs.Silence.{TakesHello, is_silent}
use Rattle.babel_timeline.specs.SilencesTold.{scheduled}
use Rattle.babel_timeline.proofs.CountTold.{returns_none, returns_one}
use Rattle.babel_timeline.proofs.TakingLaws.{on_ok_then}
use Rattle.babel_timeline.proofs.WatchTold.{hello_heard}
use Rattle.babel_timeline.proofs.teller.hear_hello.Goals as goal

pub returns-then-branch-clause-returns : goal.returns-then-branch-clause-returns
returns-then-branch-clause-returns g c =
    let here : Some c.in-Some.interval ≡ scheduled (tlv_value c.args.tlv.now) = sym c.in-Some.is ∙ c.scheduled.ensures in
    let silent : true ≡ is_silent g.S.Ord.cmp c.args.watch.now c.args.sender = sym c.if-branch.true ∙ c.in_ok-hear.ensures.returns in
    on_ok_then c.add_return.result c.add_return.ensures (λ adds.
    hello_heard g.S.Ord.cmp g.met.S.Ord.total g.met.S.Sender.exact c.args.sender c.args.time c.in-Some.interval c.args.watch.now c.hear.new.self
    (subst (λ (h : Stamp). TakesHello g.S.Ord.cmp c.args.sender h c.args.watch.now c.hear.new.self) c.new.ensures c.in_ok-hear.ensures.taken)
    (tlv_value c.args.tlv.now) c.args.told.now.items c.add_return.new.told.items true here silent adds)

pub returns-clause-returns : goal.returns-clause-returns
returns-clause-returns g c =
    let here : Some c.in-Some.interval ≡ scheduled (tlv_value c.args.tlv.now) = sym c.in-Some.is ∙ c.scheduled.ensures in
    let silent : false ≡ is_silent g.S.Ord.cmp c.args.watch.now c.args.sender = sym c.if-branch.false ∙ c.in_ok-hear.ensures.returns in
    hello_heard g.S.Ord.cmp g.met.S.Ord.total g.met.S.Sender.exact c.args.sender c.args.time c.in-Some.interval c.args.watch.now c.hear.new.self
    (subst (λ (h : Stamp). TakesHello g.S.Ord.cmp c.args.sender h c.args.watch.now c.hear.new.self) c.new.ensures c.in_ok-hear.ensures.taken)
    (tlv_value c.args.tlv.now) c.args.told.now.items c.args.told.now.items false here silent refl

pub returns-then-branch-clause-only : goal.returns-then-branch-clause-only
returns-then-branch-clause-only g c =
    on_ok_then c.add_return.result c.add_return.ensures (returns_one c.args.time c.args.sender c.args.told.now.items c.add_return.new.told.items)

pub returns-clause-only : goal.returns-clause-only
returns-clause-only g c = returns_none c.args.time c.args.told.now.items

pub returns-in_default-clause-only : goal.returns-in_default-clause-only
returns-in_default-clause-only g c = returns_none c.args.time c.args.told.now.items
