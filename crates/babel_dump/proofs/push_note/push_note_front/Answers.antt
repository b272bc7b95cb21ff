use Rattle.babel_dump.proofs.TextLemmas.{appended}
use Rattle.babel_dump.proofs.push_note.push_note_front.Goals as goal

pub returns-clause-text : goal.returns-clause-text
returns-clause-text c =
    let before = c.args.buffer.now.items in
    let name = appended before _ _ _ _ c.push_text.ensures.text (rw c.name.ensures.text at c.push_text-2.ensures.text) in
    let address = appended before _ _ _ _ (appended before _ _ _ _ name c.push_text-3.ensures.text) c.push_addr.ensures.text in
    appended before _ _ _ _ (appended before _ _ _ _ address c.push_text-4.ensures.text) c.push_place_json.ensures.text
