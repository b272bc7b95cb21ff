use Rattle.babel_dump.proofs.TextLemmas.{appended}
use Rattle.babel_dump.proofs.push_report.push_report_json.Goals as goal

pub returns : goal.returns
returns c =
    let before = c.args.buffer.now.items in
    let members = appended before _ _ _ _ c.push_text.ensures.text c.push_report_members.ensures.text in
    appended before _ _ _ _ (appended before _ _ _ _ members c.push_text-2.ensures.text) c.push_octet.ensures.text
