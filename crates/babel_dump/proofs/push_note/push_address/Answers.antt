use Rattle.babel_dump.proofs.TextLemmas.{appended}
use Rattle.babel_dump.proofs.push_note.push_address.Goals as goal

pub returns-clause-text : goal.returns-clause-text
returns-clause-text c =
    let before = c.args.buffer.now.items in
    let address = appended before _ _ _ _ c.push_text.ensures.text c.push_addr.ensures.text in
    appended before _ _ _ _ address c.push_text-2.ensures.text
