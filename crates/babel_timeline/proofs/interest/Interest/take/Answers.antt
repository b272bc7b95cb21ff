-- What speaks of no key.
use Rattle.std.proofs.Common.{refl, subst, sym, [], ◌∷◌}
use Rattle.babel_tlv.specs.declared.event.Event.TheVariants as events
use Rattle.babel_tlv.specs.declared.event_kind.EventKind.{EventKind}
use Rattle.babel_tlv.specs.EventKinds.{event_of}
use Rattle.babel_timeline.specs.Accounts.{said}
use Rattle.babel_timeline.specs.Taking.{Takes}
use Rattle.babel_timeline.specs.Telling.{seen_event}
use Rattle.babel_timeline.proofs.TakingLaws.{silent_takes}
use Rattle.babel_timeline.proofs.interest.Interest.take.Goals as goal

pub returns-in-Nothing-clause-ok : goal.returns-in-Nothing-clause-ok
returns-in-Nothing-clause-ok g c =
    subst (λ (k : EventKind). Takes g.S.Ord.cmp c.args.timeline.now.factor c.args.self.now.asked c.args.sender (said c.args.sender c.args.when (seen_event c.args.self.now.asked c.args.self.now.view (event_of k c.args.route.now)) ∷ [])
    c.args.when.time c.args.timeline.now.rows c.args.timeline.now.rows c.args.told.now.items c.args.told.now.items) (sym c.in-Nothing.is)
    (silent_takes g.S.Ord.cmp g.met.S.Ord.total g.met.S.Sender.exact c.args.timeline.now.factor c.args.self.now.asked c.args.timeline.now.rows c.args.sender c.args.when events.Nothing c.args.told.now.items c.requires (λ key word. refl))

pub returns-in-Ignored-clause-ok : goal.returns-in-Ignored-clause-ok
returns-in-Ignored-clause-ok g c =
    subst (λ (k : EventKind). Takes g.S.Ord.cmp c.args.timeline.now.factor c.args.self.now.asked c.args.sender (said c.args.sender c.args.when (seen_event c.args.self.now.asked c.args.self.now.view (event_of k c.args.route.now)) ∷ [])
    c.args.when.time c.args.timeline.now.rows c.args.timeline.now.rows c.args.told.now.items c.args.told.now.items) (sym c.in-Ignored.is)
    (silent_takes g.S.Ord.cmp g.met.S.Ord.total g.met.S.Sender.exact c.args.timeline.now.factor c.args.self.now.asked c.args.timeline.now.rows c.args.sender c.args.when (events.Ignored c.in-Ignored.field-0) c.args.told.now.items c.requires (λ key word. refl))
