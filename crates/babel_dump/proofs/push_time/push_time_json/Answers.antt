use Rattle.babel_dump.proofs.TextLemmas.{appended}
use Rattle.babel_dump.proofs.push_time.push_time_json.Goals as goal

pub returns-in-Some-clause-text : goal.returns-in-Some-clause-text
returns-in-Some-clause-text c =
    let before = c.args.buffer.now.items in
    let time = appended before _ _ _ _ c.push_text.ensures.text c.push_time.ensures.text in
    rw c.in-Some.is (appended before _ _ _ _ time c.push_text-in-Some.ensures.text)
