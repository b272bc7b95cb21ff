-- The lines so far were written but for those that the buffer has.
use Rattle.std.proofs.Common.{◌≤◌, ◌++◌, drop, flat_map, vec_capacity}
use Rattle.babel_dump.specs.Followed.{named_event}
use Rattle.babel_dump.specs.Run.{output}
use Rattle.babel_dump.specs.Slices.{Took}
use Rattle.babel_dump.proofs.events.write_told.Given as goal

abbrev pub invariant-loop-telling : goal.invariant-loop-telling
invariant-loop-telling g l = record {
  took : Took (output (g.W.ByteOut.state l.initial.writer) (g.W.ByteOut.state l.writer)) (flat_map (named_event l.events l.gathered) l.told)
      (l.buffer.items ++ flat_map (named_event l.events l.gathered) (drop l.telling-index l.told));
  room : 2048 ≤ vec_capacity l.buffer;
}
