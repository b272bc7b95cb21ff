-- The lines so far were written but for those that the buffer has.
use Rattle.std.proofs.Common.{◌≤◌, ◌++◌, flat_map, vec_capacity}
use Rattle.babel_dump.specs.CaptureText.{named_in, senders_in}
use Rattle.babel_dump.specs.Run.{output}
use Rattle.babel_dump.specs.Slices.{Took}
use Rattle.babel_dump.proofs.slices.write_senders.Given as goal

abbrev pub invariant-loop-origin : goal.invariant-loop-origin
invariant-loop-origin g l = record {
  took : Took (output (g.W.ByteOut.state l.initial.writer) (g.W.ByteOut.state l.writer)) (senders_in l.format l.gathered)
      (l.buffer.items ++ flat_map (named_in l.format l.gathered) l.origin-iterator);
  room : 2048 ≤ vec_capacity l.buffer;
}
