use Rattle.babel_dump.proofs.TextLemmas.{appended}
use Rattle.babel_dump.proofs.push_note.push_left_out.Goals as goal

pub returns-clause-text : goal.returns-clause-text
returns-clause-text c =
    let before = c.args.buffer.now.items in
    let reasons = appended before _ _ _ _ c.push_text.ensures.text (rw c.told_reasons.ensures.reasons at c.push_counted_json.ensures.text) in
    appended before _ _ _ _ reasons c.push_text-2.ensures.text
