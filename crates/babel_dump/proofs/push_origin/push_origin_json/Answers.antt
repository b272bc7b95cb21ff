use Rattle.babel_dump.proofs.TextLemmas.{appended}
use Rattle.babel_dump.proofs.push_origin.push_origin_json.Goals as goal

pub returns-clause-text : goal.returns-clause-text
returns-clause-text c =
    let before = c.args.buffer.now.items in
    appended before _ _ _ _ (appended before _ _ _ _ c.push_origin_front.ensures.text c.push_members.ensures.text) c.push_text.ensures.text
