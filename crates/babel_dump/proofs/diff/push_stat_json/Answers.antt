use Rattle.babel_dump.proofs.TextLemmas.{appended}
use Rattle.babel_dump.proofs.diff.push_stat_json.Goals as goal

pub returns-clause-text : goal.returns-clause-text
returns-clause-text c =
    let before = c.args.buffer.now.items in
    let gone = appended before _ _ _ _ c.push_text.ensures.text c.push_decimal.ensures.text in
    let new = appended before _ _ _ _ (appended before _ _ _ _ gone c.push_text-2.ensures.text) c.push_decimal-2.ensures.text in
    let changed = appended before _ _ _ _ (appended before _ _ _ _ new c.push_text-3.ensures.text) c.push_decimal-3.ensures.text in
    let alike = appended before _ _ _ _ (appended before _ _ _ _ changed c.push_text-4.ensures.text) c.push_decimal-4.ensures.text in
    appended before _ _ _ _ (appended before _ _ _ _ alike c.push_text-5.ensures.text) c.push_octet.ensures.text
