-- What went so far was told.
use Rattle.std.proofs.Common.{length}
use Rattle.babel_timeline.specs.Taking.{KeepsBounds}
use Rattle.babel_timeline.proofs.TakingLaws.{LeavesTo}
use Rattle.babel_timeline.proofs.interest.Interest.retract_all.Given as goal

abbrev pub invariant-loop-change : goal.invariant-loop-change
invariant-loop-change g l = record {
  bounds : KeepsBounds l.fn.timeline l.timeline;
  leaves : LeavesTo g.S.Ord.cmp l.fn.timeline.factor l.self.asked l.sender l.when l.fn.timeline.rows l.timeline.rows l.fn.told.items l.told.items;
}

abbrev pub decreases-loop-change : goal.decreases-loop-change
decreases-loop-change g l = length l.timeline.rows
