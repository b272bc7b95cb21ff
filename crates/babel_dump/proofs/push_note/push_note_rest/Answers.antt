use Rattle.babel_dump.proofs.TextLemmas.{appended}
use Rattle.babel_dump.proofs.push_note.push_note_rest.Goals as goal

pub returns-clause-text : goal.returns-clause-text
returns-clause-text c =
    let before = c.args.buffer.now.items in
    let side = appended before _ _ _ _ c.push_members.ensures.text (rw c.side_member.ensures.text at c.push_text.ensures.text) in
    appended before _ _ _ _ (appended before _ _ _ _ side c.push_text-2.ensures.text) c.push_octet.ensures.text
