-- The notes so far were written, and nothing else.
use Rattle.std.proofs.Common.{◌≤◌, drop, flat_map, vec_capacity}
use Rattle.babel_dump.specs.NoteJson.{note_of_sender}
use Rattle.babel_dump.specs.Run.{output}
use Rattle.babel_dump.specs.Slices.{Took}
use Rattle.babel_dump.proofs.sender_notes.write_sender_notes.Given as goal

abbrev pub invariant-loop-note : goal.invariant-loop-note
invariant-loop-note g l = record {
  took : Took (output (g.W.ByteOut.state l.initial.writer) (g.W.ByteOut.state l.writer)) (flat_map (note_of_sender l.spelling l.origin l.name) l.notes)
      (flat_map (note_of_sender l.spelling l.origin l.name) (drop l.note-index l.notes));
  room : 2048 ≤ vec_capacity l.line;
}
