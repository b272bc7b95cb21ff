use Rattle.babel_dump.proofs.TextLemmas.{appended}
use Rattle.babel_dump.proofs.push_json.push_addressed.Goals as goal

pub returns-clause-text : goal.returns-clause-text
returns-clause-text g c =
    let before = c.args.buffer.now.items in
    let dst = appended before _ _ _ _ c.push_text.ensures.text c.push.ensures.text in
    let src = appended before _ _ _ _ (appended before _ _ _ _ dst c.push_text-2.ensures.text) c.push-2.ensures.text in
    appended before _ _ _ _ src c.push_text-3.ensures.text
