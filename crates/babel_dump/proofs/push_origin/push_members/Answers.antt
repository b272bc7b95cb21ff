use Rattle.babel_dump.proofs.TextLemmas.{appended}
use Rattle.babel_dump.proofs.push_origin.push_members.Goals as goal

pub returns-clause-text : goal.returns-clause-text
returns-clause-text c =
    let before = c.args.buffer.now.items in
    let metric = appended before _ _ _ _ c.push_text.ensures.text c.push_number.ensures.text in
    appended before _ _ _ _ (appended before _ _ _ _ metric c.push_text-2.ensures.text) c.push_decimal.ensures.text
