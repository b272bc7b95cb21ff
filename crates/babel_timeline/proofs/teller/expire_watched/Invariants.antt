-- What ended so far was told, and who fell silent besides.
use Rattle.std.proofs.Common.{length}
use Rattle.babel_timeline.specs.Taking.{KeepsBounds}
use Rattle.babel_timeline.proofs.CountTold.{EndsSoFar}
use Rattle.babel_timeline.proofs.WatchTold.{TellsSome}
use Rattle.babel_timeline.proofs.teller.expire_watched.Given as goal

abbrev pub invariant-loop-silence : goal.invariant-loop-silence
invariant-loop-silence g l = record {
  bounds : KeepsBounds l.fn.timeline l.timeline;
  ends : EndsSoFar g.S.Ord.cmp l.fn.timeline.factor l.fn.timeline.rows l.until l.timeline.rows l.fn.told.items l.told.items l.watch;
  silences : TellsSome g.S.Ord.cmp l.until l.fn.told.items l.told.items l.fn.watch l.watch;
}

abbrev pub decreases-loop-silence : goal.decreases-loop-silence
decreases-loop-silence g l = length l.watch.rows
