-- A key is retracted.
use Rattle.std.proofs.Common.{ap, sym, ◌∙◌, Some, None}
use Rattle.babel_timeline.specs.Rows.{Held}
use Rattle.babel_timeline.proofs.TakingLaws.{retracted_takes}
use Rattle.babel_timeline.proofs.TellingLaws.{told_no}
use Rattle.babel_timeline.proofs.interest.Interest.retract.Goals as goal

pub returns-in_ok-tell-clause-ok : goal.returns-in_ok-tell-clause-ok
returns-in_ok-tell-clause-ok g c =
    retracted_takes g.S.Ord.cmp g.met.S.Ord.total g.met.S.Sender.exact c.args.timeline.now.factor c.args.self.now.asked c.args.timeline.now.rows c.retract.new.self.rows c.args.subject.now c.args.when c.time.result (Some c.in-Some.change)
    c.args.told.now.items c.tell.new.told.items c.requires c.time.ensures.value (ap (λ (h : Held g.row.S.Denot). h.rows) c.retract.ensures.rows) (sym c.in-Some.is ∙ c.retract.ensures.told) c.in_ok-tell.ensures

pub returns-in_default-clause-ok : goal.returns-in_default-clause-ok
returns-in_default-clause-ok g c =
    retracted_takes g.S.Ord.cmp g.met.S.Ord.total g.met.S.Sender.exact c.args.timeline.now.factor c.args.self.now.asked c.args.timeline.now.rows c.retract.new.self.rows c.args.subject.now c.args.when c.time.result None
    c.args.told.now.items c.args.told.now.items c.requires c.time.ensures.value (ap (λ (h : Held g.row.S.Denot). h.rows) c.retract.ensures.rows) (sym c.in_default.is ∙ c.retract.ensures.told)
    (told_no g.S.Ord.cmp g.met.S.Ord.total g.met.S.Sender.exact c.args.timeline.now.factor c.args.self.now.asked c.args.told.now.items c.args.self.now.asked)
