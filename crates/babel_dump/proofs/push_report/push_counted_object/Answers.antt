use Rattle.babel_dump.proofs.TextLemmas.{appended}
use Rattle.babel_dump.proofs.push_report.push_counted_object.Goals as goal

pub returns-clause-text : goal.returns-clause-text
returns-clause-text c =
    let before = c.args.buffer.now.items in
    let name = appended before _ _ _ _ c.push_text.ensures.text c.push_text-2.ensures.text in
    let count = appended before _ _ _ _ (appended before _ _ _ _ name c.push_text-3.ensures.text) c.push_decimal.ensures.text in
    let first = appended before _ _ _ _ (appended before _ _ _ _ count c.push_text-4.ensures.text) c.push_decimal-2.ensures.text in
    appended before _ _ _ _ first c.push_text-5.ensures.text
