use Rattle.babel_dump.proofs.TextLemmas.{appended}
use Rattle.babel_dump.proofs.push_origin.push_change_json.Goals as goal

pub returns-clause-text : goal.returns-clause-text
returns-clause-text c =
    let before = c.args.buffer.now.items in
    let left = appended before _ _ _ _ (appended before _ _ _ _ c.push_origin_front.ensures.text c.push_text.ensures.text) c.push_side.ensures.text in
    let right = appended before _ _ _ _ (appended before _ _ _ _ left c.push_text-2.ensures.text) c.push_side-2.ensures.text in
    appended before _ _ _ _ right c.push_text-3.ensures.text
