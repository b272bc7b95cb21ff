use Rattle.std.proofs.Common.{List, ℕ, ◌++◌, ◌∙◌, ap, arith}
use Rattle.babel_dump.specs.NoteJson.{note_json}
use Rattle.babel_dump.proofs.SliceLaws.{broke_next, wrote_next, wrote_none}
use Rattle.babel_dump.proofs.notes.write_notes.Goals as goal

pub returns-in_err-write_all-clause-text : goal.returns-in_err-write_all-clause-text
returns-in_err-write_all-clause-text g c =
    let put = c.deref.ensures.value ∙ c.push_note_json.ensures.text ∙ ap (λ (l : List ℕ). l ++ note_json c.note-item.result) c.clear.ensures.items in
    broke_next note_json c.args.notes.now c.loop-note.note-index c.note-item.result _ _ _ _ _ c.from_residual.result c.loop-note.invariant.took (omega arith)
    c.note-item.is put c.in_err-write_all.ensures c.from_residual.ensures.0

pub loop-note-preserved : goal.loop-note-preserved
loop-note-preserved g c =
    let put = c.deref.ensures.value ∙ c.push_note_json.ensures.text ∙ ap (λ (l : List ℕ). l ++ note_json c.note-item.result) c.clear.ensures.items in record {
      took = wrote_next note_json c.args.notes.now c.loop-note.note-index c.note-item.result _ _ _ _ _ c.loop-note.invariant.took (omega arith) c.note-item.is put
          c.in_ok-write_all.ensures;
      room = omega (arith, c.loop-note.invariant.room, c.clear.ensures.capacity, c.push_note_json.ensures.room);
    }

pub returns-clause-text : goal.returns-clause-text
returns-clause-text g c =
    wrote_none note_json c.args.notes.now c.loop-note.note-index _ _ _ _ c.write_text.result c.loop-note.invariant.took (omega (arith, c.loop-note-test.false))
    c.write_text.ensures
