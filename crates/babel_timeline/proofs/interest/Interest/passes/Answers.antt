-- What says nothing changes no row, nor what speaks of a key that does not count.
use Rattle.std.proofs.Common.{◌≡◌, ◌∙◌, false, None, rules, subst, sym}
use Rattle.babel_tlv.specs.declared.event_kind.EventKind.{EventKind}
use Rattle.babel_tlv.specs.EventKinds.{event_of}
use Rattle.babel_timeline.specs.Taking.{Passes}
use Rattle.babel_timeline.proofs.TakingLaws.{ignored_passes, missed_passes, nothing_passes, unheld_passes}
use Rattle.babel_timeline.proofs.interest.Interest.passes.Goals as goal

pub returns-in-Announce : goal.returns-in-Announce
returns-in-Announce g c hit =
    let miss : c.counts.result ≡ false = search (rules, hit) in
    subst (λ (k : EventKind). Passes g.S.Ord.cmp c.args.timeline.now.factor c.args.self.now.asked c.args.self.now.view c.args.sender (event_of k c.args.route.now) c.args.timeline.now.rows) (sym c.in-Announce.is)
    (missed_passes g.S.Ord.cmp g.met.S.Ord.total g.met.S.Sender.exact c.args.timeline.now.factor c.args.self.now.asked c.args.self.now.view (record { sender = c.args.sender; key = c.args.route.now.key })
    c.args.timeline.now.rows c.args.route.now.ann (sym c.counts.ensures ∙ miss))

pub returns-then-not-counts : goal.returns-then-not-counts
returns-then-not-counts g c hit =
    let none : c.row.result ≡ None = search (rules, hit) in
    subst (λ (k : EventKind). Passes g.S.Ord.cmp c.args.timeline.now.factor c.args.self.now.asked c.args.self.now.view c.args.sender (event_of k c.args.route.now) c.args.timeline.now.rows) (sym c.in-Retract.is)
    (unheld_passes g.S.Ord.cmp g.met.S.Ord.total g.met.S.Sender.exact c.args.timeline.now.factor c.args.self.now.asked c.args.self.now.view (record { sender = c.args.sender; key = c.args.route.now.key })
    c.args.timeline.now.rows (sym c.row.ensures ∙ none))

pub returns-in-Nothing : goal.returns-in-Nothing
returns-in-Nothing g c hit =
    subst (λ (k : EventKind). Passes g.S.Ord.cmp c.args.timeline.now.factor c.args.self.now.asked c.args.self.now.view c.args.sender (event_of k c.args.route.now) c.args.timeline.now.rows) (sym c.in-Nothing.is)
    (nothing_passes g.S.Ord.cmp g.met.S.Ord.total g.met.S.Sender.exact c.args.timeline.now.factor c.args.self.now.asked c.args.self.now.view c.args.sender c.args.timeline.now.rows)

pub returns-in-Ignored : goal.returns-in-Ignored
returns-in-Ignored g c hit =
    subst (λ (k : EventKind). Passes g.S.Ord.cmp c.args.timeline.now.factor c.args.self.now.asked c.args.self.now.view c.args.sender (event_of k c.args.route.now) c.args.timeline.now.rows) (sym c.in-Ignored.is)
    (ignored_passes g.S.Ord.cmp g.met.S.Ord.total g.met.S.Sender.exact c.args.timeline.now.factor c.args.self.now.asked c.args.self.now.view c.args.sender c.args.timeline.now.rows c.in-Ignored.field-0)
