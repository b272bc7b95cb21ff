-- The octets so far were written but for those that the buffer has.
use Rattle.std.proofs.Common.{◌≤◌, ◌++◌, drop, vec_capacity}
use Rattle.babel_dump.specs.NameText.{escaped}
use Rattle.babel_dump.specs.Run.{output}
use Rattle.babel_dump.specs.Slices.{Took}
use Rattle.babel_dump.proofs.slices.write_name.Given as goal

abbrev pub invariant-loop-octet : goal.invariant-loop-octet
invariant-loop-octet g l = record {
  took : Took (output (g.W.ByteOut.state l.initial.writer) (g.W.ByteOut.state l.writer)) (l.initial.buffer.items ++ escaped l.escape l.name)
      (l.buffer.items ++ escaped l.escape (drop l.octet-index l.name));
  room : vec_capacity l.initial.buffer ≤ vec_capacity l.buffer;
}
