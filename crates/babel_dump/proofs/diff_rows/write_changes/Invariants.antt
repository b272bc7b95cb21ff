-- The rows so far were written but for those that the buffer has.
use Rattle.std.proofs.Common.{◌≤◌, ◌++◌, flat_map, vec_capacity}
use Rattle.babel_dump.specs.Changes.{changes_left, changes_of}
use Rattle.babel_dump.specs.DiffText.{change_text}
use Rattle.babel_dump.specs.Run.{output}
use Rattle.babel_dump.specs.Slices.{Took}
use Rattle.babel_dump.proofs.diff_rows.write_changes.Given as goal

abbrev pub invariant-loop-difference : goal.invariant-loop-difference
invariant-loop-difference g l = record {
  took : Took (output (g.W.ByteOut.state l.initial.writer) (g.W.ByteOut.state l.writer)) (flat_map (change_text l.style l.coloured l.view) (changes_of l.changes))
      (l.buffer.items ++ flat_map (change_text l.style l.coloured l.view) (changes_left l.difference-iterator));
  room : 2048 ≤ vec_capacity l.buffer;
}
