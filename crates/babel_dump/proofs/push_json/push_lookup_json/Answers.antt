use Rattle.babel_dump.proofs.TextLemmas.{appended}
use Rattle.babel_dump.proofs.push_json.push_lookup_json.Goals as goal

pub returns-clause-text : goal.returns-clause-text
returns-clause-text c =
    let before = c.args.buffer.now.items in
    let front = rw (c.all.ensures, c.held-held.ensures) at c.push_answered.ensures.text in
    let answered = appended before _ _ _ _ front c.push_route_member.ensures.text in
    appended before _ _ _ _ answered c.push_text.ensures.text
