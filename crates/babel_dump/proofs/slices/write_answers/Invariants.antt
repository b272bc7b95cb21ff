-- The lines so far were written but for those that the buffer has.
use Rattle.std.proofs.Common.{◌≤◌, ◌++◌, drop, length, vec_capacity}
use Rattle.std.specs.List.{zip}
use Rattle.babel_dump.specs.InFormat.{placed_in}
use Rattle.babel_dump.specs.Run.{output}
use Rattle.babel_dump.specs.Slices.{Took}
use Rattle.babel_dump.proofs.slices.write_answers.Given as goal

abbrev pub invariant-loop-pair : goal.invariant-loop-pair
invariant-loop-pair g l = record {
  took : Took (output (g.W.ByteOut.state l.initial.writer) (g.W.ByteOut.state l.writer)) (placed_in l.format l.with_prefix l.answers.table (zip l.answers.asked.items l.answers.places.items))
      (l.buffer.items ++ placed_in l.format l.with_prefix l.answers.table (drop (length l.yielded) (zip l.answers.asked.items l.answers.places.items)));
  room : 2048 ≤ vec_capacity l.buffer;
}
