-- The row goes, and its sender may answer otherwise.
use Rattle.std.proofs.Common.{ap, sym, ◌∙◌}
use Rattle.babel_timeline.specs.Kept.{expiring}
use Rattle.babel_timeline.specs.Rows.{Held}
use Rattle.babel_timeline.proofs.TakingLaws.{end_tells, on_ok_then}
use Rattle.babel_timeline.proofs.interest.Interest.end.Goals as goal

pub returns-clause-told : goal.returns-clause-told
returns-clause-told g c = on_ok_then c.tell_answer.result c.tell_answer.ensures (λ tells one ends.
    end_tells g.S.Ord.cmp g.met.S.Ord.total g.met.S.Sender.exact c.args.timeline.now.factor c.args.self.now.asked c.args.timeline.now.rows c.take.new.self.rows c.args.first.now.time c.subject-subject.result
    (expiring c.args.first.now) c.unwrap-row.result one c.answer-before.result c.args.told.now.items c.tell.new.told.items c.tell_answer.new.told.items c.subject-subject.ensures
    (sym c.take.ensures.row ∙ c.unwrap-row.ensures) ends c.answer-before.ensures.none
    c.answer-before.ensures.some (ap (λ (h : Held g.row.S.Denot). h.rows) c.take.ensures.rows) c.in_ok-tell.ensures tells)
