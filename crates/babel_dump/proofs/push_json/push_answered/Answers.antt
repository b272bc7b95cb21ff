use Rattle.babel_dump.proofs.TextLemmas.{appended}
use Rattle.babel_dump.proofs.push_json.push_answered.Goals as goal

pub returns-clause-text : goal.returns-clause-text
returns-clause-text g c =
    let before = c.args.buffer.now.items in
    let addressed = appended before _ _ _ _ c.push_text.ensures.text c.push_addressed.ensures.text in
    appended before _ _ _ _ (appended before _ _ _ _ addressed c.push_text-2.ensures.text) c.push_answer_json.ensures.text
