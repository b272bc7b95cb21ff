-- An announcement is taken if it counts.
use Rattle.std.proofs.Common.{ap, subst, sym, ◌∙◌, Option, Some, None}
use Rattle.babel_prefix.specs.declared.family.Family.{Family}
use Rattle.babel_prefix.specs.Address.{AddressPrefix}
use Rattle.babel_tlv.specs.Views.{seen_announcement}
use Rattle.babel_timeline.specs.declared.change.Change.{Change}
use Rattle.babel_timeline.specs.Changes.{TellsAnnouncement}
use Rattle.babel_timeline.specs.Rows.{Held, row_at}
use Rattle.babel_timeline.proofs.TakingLaws.{counted_takes, not_counted_takes}
use Rattle.babel_timeline.proofs.TellingLaws.{told_no}
use Rattle.babel_timeline.proofs.interest.Interest.announce.Goals as goal

pub returns-then-not-counts-clause-ok : goal.returns-then-not-counts-clause-ok
returns-then-not-counts-clause-ok g c = not_counted_takes g.S.Ord.cmp g.met.S.Ord.total g.met.S.Sender.exact c.args.timeline.now.factor c.args.self.now.asked c.args.self.now.view c.args.timeline.now.rows c.args.subject.now c.args.row.now
    c.args.told.now.items (sym c.counts.ensures ∙ c.if-not-counts.true) c.requires

pub returns-in_ok-tell-clause-ok : goal.returns-in_ok-tell-clause-ok
returns-in_ok-tell-clause-ok g c = counted_takes g.S.Ord.cmp g.met.S.Ord.total g.met.S.Sender.exact c.args.timeline.now.factor c.args.self.now.asked c.args.self.now.view c.args.timeline.now.rows c.announce.new.self.rows c.args.subject.now
    c.args.row.now c.seen.result (Some c.in-Some.change) c.args.told.now.items c.tell.new.told.items (sym c.counts.ensures ∙ c.if-not-counts.false)
    (c.seen.ensures ∙ ap (λ (f : Family). seen_announcement c.args.self.now.view f c.args.row.now.ann) (c.family-family.ensures ∙ ap (λ (p : AddressPrefix). p.address.family) c.dst.ensures.value))
    c.requires (ap (λ (h : Held g.row.S.Denot). h.rows) c.in_ok-change.ensures.ok)
    (subst (λ (t : Option (Change g.row.S.Denot)). TellsAnnouncement c.args.row.now.when.time c.args.subject.now (row_at g.S.Ord.cmp c.args.timeline.now.rows c.args.subject.now) c.seen.result t)
    c.in-Some.is c.in_ok-change.ensures.told) c.in_ok-tell.ensures

pub returns-in_default-clause-ok : goal.returns-in_default-clause-ok
returns-in_default-clause-ok g c = counted_takes g.S.Ord.cmp g.met.S.Ord.total g.met.S.Sender.exact c.args.timeline.now.factor c.args.self.now.asked c.args.self.now.view c.args.timeline.now.rows c.announce.new.self.rows c.args.subject.now
    c.args.row.now c.seen.result None c.args.told.now.items c.args.told.now.items (sym c.counts.ensures ∙ c.if-not-counts.false)
    (c.seen.ensures ∙ ap (λ (f : Family). seen_announcement c.args.self.now.view f c.args.row.now.ann) (c.family-family.ensures ∙ ap (λ (p : AddressPrefix). p.address.family) c.dst.ensures.value))
    c.requires (ap (λ (h : Held g.row.S.Denot). h.rows) c.in_ok-change.ensures.ok)
    (subst (λ (t : Option (Change g.row.S.Denot)). TellsAnnouncement c.args.row.now.when.time c.args.subject.now (row_at g.S.Ord.cmp c.args.timeline.now.rows c.args.subject.now) c.seen.result t)
    c.in_default.is c.in_ok-change.ensures.told) (told_no g.S.Ord.cmp g.met.S.Ord.total g.met.S.Sender.exact c.args.timeline.now.factor c.args.self.now.asked c.args.told.now.items c.args.self.now.asked)
