use Rattle.babel_dump.proofs.TextLemmas.{appended}
use Rattle.babel_dump.proofs.push_report.push_report_members.Goals as goal

pub returns-clause-text : goal.returns-clause-text
returns-clause-text c =
    let before = c.args.buffer.now.items in
    let tlvs = appended before _ _ _ _ c.push_text.ensures.text (rw c.tlvs.ensures at c.push_decimal.ensures.text) in
    let ignored = appended before _ _ _ _ (appended before _ _ _ _ tlvs c.push_text-2.ensures.text) c.push_counted_json.ensures.text in
    appended before _ _ _ _ ignored c.push_text-3.ensures.text
