use Rattle.babel_dump.proofs.TextLemmas.{appended}
use Rattle.babel_dump.proofs.push.push_count.Goals as goal

pub returns-clause-text : goal.returns-clause-text
returns-clause-text c =
    let before = c.args.buffer.now.items in
    let word = appended before _ _ _ _ c.push_text.ensures.text c.push_octet.ensures.text in
    appended before _ _ _ _ (appended before _ _ _ _ word c.push_decimal.ensures.text) c.push_octet-2.ensures.text
