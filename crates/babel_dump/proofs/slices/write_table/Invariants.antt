-- The lines so far were written but for those that the buffer has.
use Rattle.std.proofs.Common.{◌≤◌, ◌++◌, vec_capacity}
use Rattle.babel_table.specs.Left.{rows_left}
use Rattle.babel_dump.specs.Filter.{kept_rows}
use Rattle.babel_dump.specs.InFormat.{pairs_in}
use Rattle.babel_dump.specs.Run.{output}
use Rattle.babel_dump.specs.Slices.{Took}
use Rattle.babel_dump.proofs.slices.write_table.Given as goal

abbrev pub invariant-loop-key : goal.invariant-loop-key
invariant-loop-key g l = record {
  took : Took (output (g.W.ByteOut.state l.initial.writer) (g.W.ByteOut.state l.writer)) (pairs_in l.format l.view (kept_rows l.filter l.table.rows))
      (l.buffer.items ++ pairs_in l.format l.view (kept_rows l.filter (rows_left l.key-iterator)));
  room : 2048 ≤ vec_capacity l.buffer;
}
