use Rattle.babel_dump.proofs.TextLemmas.{appended}
use Rattle.babel_dump.proofs.push_summary.push_summary_members.Goals as goal

pub returns-clause-text : goal.returns-clause-text
returns-clause-text c =
    let before = c.args.buffer.now.items in
    let v4 = appended before _ _ _ _ c.push_text.ensures.text c.push_family_json.ensures.text in
    let v6 = appended before _ _ _ _ (appended before _ _ _ _ v4 c.push_text-2.ensures.text) c.push_family_json-2.ensures.text in
    let ids = appended before _ _ _ _ (appended before _ _ _ _ v6 c.push_text-3.ensures.text) c.push_decimal.ensures.text in
    appended before _ _ _ _ (appended before _ _ _ _ ids c.push_text-4.ensures.text) c.push_decimal-2.ensures.text
