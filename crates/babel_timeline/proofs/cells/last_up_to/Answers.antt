-- No subject in a range is after the last of it.
use Rattle.babel_timeline.proofs.EdgeLaws.{to_greatest}
use Rattle.babel_timeline.proofs.Subjects.{subject_total}
use Rattle.babel_timeline.proofs.cells.last_up_to.Goals as goal

pub returns-clause-greatest : goal.returns-clause-greatest
returns-clause-greatest g c =
    to_greatest (subject_total g.S.Ord.cmp g.met.S.Ord.total) c.args.places.now c.args.most c.range.result (c.in_ok-subject.subject.now, c.in_ok-subject.field-0-1.now) c.next_back.new.self
    (c.range.ensures.in_range tt) c.in_ok-subject.ensures.steps
