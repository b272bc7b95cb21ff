-- What is looked at before its end is queued for it, and is so then.
use Rattle.std.proofs.Common.{◌≡◌}
use Rattle.std.specs.Prelude.{sum_by}
use Rattle.std.specs.Map.{values_of}
use Rattle.babel_timeline.specs.Kept.{AreQueued}
use Rattle.babel_timeline.specs.Places.{rows_of}
use Rattle.babel_timeline.proofs.KeptLaws.{unsettled}
use Rattle.babel_timeline.proofs.timeline.settle.Given as goal

abbrev pub invariant-loop-first : goal.invariant-loop-first
invariant-loop-first g l = record {
  queued : AreQueued g.S.Ord.cmp l.factor l.cells l.queue.expiries;
  same : rows_of l.cells ≡ rows_of l.fn.cells;
}

abbrev pub decreases-loop-first : goal.decreases-loop-first
decreases-loop-first g l = sum_by (unsettled l.factor) (values_of l.cells)
