use Rattle.babel_dump.proofs.TextLemmas.{appended}
use Rattle.babel_dump.proofs.push_json.push_differ_json.Goals as goal

pub returns-clause-text : goal.returns-clause-text
returns-clause-text g c =
    let before = c.args.buffer.now.items in
    let addressed = appended before _ _ _ _ c.push_text.ensures.text c.push_addressed.ensures.text in
    let left = appended before _ _ _ _ (appended before _ _ _ _ addressed c.push_text-2.ensures.text) c.push_answer_json.ensures.text in
    let right = appended before _ _ _ _ (appended before _ _ _ _ left c.push_text-3.ensures.text) c.push_answer_json-2.ensures.text in
    appended before _ _ _ _ (appended before _ _ _ _ right c.push_text-4.ensures.text) c.push_octet.ensures.text
