use Rattle.std.proofs.Common.{[]}
use Rattle.babel_dump.proofs.NoteLines.{note_parts, wrote_rest}
use Rattle.babel_dump.proofs.SenderLines.{broke_before_end, broke_in_middle, took_whole}
use Rattle.babel_dump.proofs.SliceLaws.{begun, front_at_err}
use Rattle.babel_dump.proofs.TextLemmas.{appended}
use Rattle.babel_dump.proofs.sender_notes.write_sender_note.Goals as goal

pub returns-in_err-write_name-clause-front : goal.returns-in_err-write_name-clause-front
returns-in_err-write_name-clause-front g c =
    let parts = note_parts c.args.spelling c.args.name.now c.args.origin.now c.args.told.now in
    let front = appended [] _ _ _ _ (rw c.clear.ensures.items at c.push_note_front.ensures.text) (rw c.opening.ensures.text at c.push_text.ensures.text) in
    front_at_err _ _ _ c.from_residual.result c.from_residual.ensures.0
    (broke_in_middle _ _ _ [] _ _ _ _ parts [] _ (begun _ []) front c.in_err-write_name.ensures.front)

pub returns-in_err-write_all-clause-front : goal.returns-in_err-write_all-clause-front
returns-in_err-write_all-clause-front g c =
    let parts = note_parts c.args.spelling c.args.name.now c.args.origin.now c.args.told.now in
    let front = appended [] _ _ _ _ (rw c.clear.ensures.items at c.push_note_front.ensures.text) (rw c.opening.ensures.text at c.push_text.ensures.text) in
    front_at_err _ _ _ c.from_residual-in_err-write_all.result c.from_residual-in_err-write_all.ensures.0
    (broke_before_end _ _ _ [] _ _ _ _ parts [] _ (begun _ []) front _ c.in_ok-write_name.ensures.front _ (rw c.deref.ensures.value at c.in_err-write_all.ensures))

pub returns-clause-front : goal.returns-clause-front
returns-clause-front g c =
    let parts = note_parts c.args.spelling c.args.name.now c.args.origin.now c.args.told.now in
    let front = appended [] _ _ _ _ (rw c.clear.ensures.items at c.push_note_front.ensures.text) (rw c.opening.ensures.text at c.push_text.ensures.text) in
    let rest = appended [] _ _ _ _ (rw (c.clear-2.ensures.items, c.closing.ensures.text) at c.push_text-2.ensures.text) c.push_note_rest.ensures.text in
    wrote_rest _ _ _ _ _ c.write_all-2.result
    (took_whole _ _ _ [] _ _ _ _ parts [] _ (begun _ []) front _ c.in_ok-write_name.ensures.front _ [] _ (rw c.deref.ensures.value at c.in_ok-write_all.ensures) rest)
    (rw c.deref-2.ensures.value at c.write_all-2.ensures)
