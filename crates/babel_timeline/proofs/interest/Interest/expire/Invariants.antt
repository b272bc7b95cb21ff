-- What ended so far was told.
use Rattle.std.proofs.Common.{length}
use Rattle.babel_timeline.specs.Taking.{KeepsBounds}
use Rattle.babel_timeline.proofs.TellingLaws.{EndsTo}
use Rattle.babel_timeline.proofs.interest.Interest.expire.Given as goal

abbrev pub invariant-loop-first : goal.invariant-loop-first
invariant-loop-first g l = record {
  bounds : KeepsBounds l.fn.timeline l.timeline;
  ends : EndsTo g.S.Ord.cmp l.fn.timeline.factor l.self.asked l.until l.fn.timeline.rows l.timeline.rows l.fn.told.items l.told.items;
}

abbrev pub decreases-loop-first : goal.decreases-loop-first
decreases-loop-first g l = length l.timeline.rows
