use Rattle.std.proofs.Common.{arith, refl}
use Rattle.babel_dump.specs.NoteJson.{note_of_sender}
use Rattle.babel_dump.proofs.SliceLaws.{broke_next, wrote_next, wrote_none}
use Rattle.babel_dump.proofs.sender_notes.write_sender_notes.Goals as goal

pub returns-in_err-write_sender_note-clause-text : goal.returns-in_err-write_sender_note-clause-text
returns-in_err-write_sender_note-clause-text g c =
    broke_next (note_of_sender c.args.spelling c.args.origin.now c.args.name.now) c.args.notes.now c.loop-note.note-index c.note-item.result _ _ _ _ _ c.from_residual.result
    c.loop-note.invariant.took (omega arith) c.note-item.is refl c.in_err-write_sender_note.ensures.front c.from_residual.ensures.0

pub loop-note-preserved : goal.loop-note-preserved
loop-note-preserved g c = record {
  took = wrote_next (note_of_sender c.args.spelling c.args.origin.now c.args.name.now) c.args.notes.now c.loop-note.note-index c.note-item.result _ _ _ _ _
      c.loop-note.invariant.took (omega arith) c.note-item.is refl c.in_ok-write_sender_note.ensures.front;
  room = c.write_sender_note.ensures.room;
}

pub returns-clause-text : goal.returns-clause-text
returns-clause-text g c =
    wrote_none (note_of_sender c.args.spelling c.args.origin.now c.args.name.now) c.args.notes.now c.loop-note.note-index _ _ _ _ c.write_text.result c.loop-note.invariant.took
    (omega (arith, c.loop-note-test.false)) c.write_text.ensures
