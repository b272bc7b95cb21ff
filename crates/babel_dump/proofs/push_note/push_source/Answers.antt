use Rattle.babel_dump.proofs.TextLemmas.{appended}
use Rattle.babel_dump.proofs.push_note.push_source.Goals as goal

pub returns-clause-text : goal.returns-clause-text
returns-clause-text c =
    let before = c.args.buffer.now.items in
    let source = appended before _ _ _ _ c.push_text.ensures.text c.push_addr.ensures.text in
    appended before _ _ _ _ source c.push_text-2.ensures.text
