use Rattle.babel_dump.proofs.TextLemmas.{appended}
use Rattle.babel_dump.proofs.push_origin.push_origin.Goals as goal

pub returns-clause-text : goal.returns-clause-text
returns-clause-text c =
    let before = c.args.buffer.now.items in
    let dst = rw c.dst.ensures.value at c.push_prefix.ensures.text in
    let src = appended before _ _ _ _ dst (rw c.src.ensures.value at c.push_from.ensures.text) in
    let id = appended before _ _ _ _ (appended before _ _ _ _ src c.push_text.ensures.text) c.push_named_id.ensures.text in
    let metric = appended before _ _ _ _ (appended before _ _ _ _ id c.push_text-2.ensures.text) c.push_number.ensures.text in
    appended before _ _ _ _ (appended before _ _ _ _ metric c.push_text-3.ensures.text) c.push_decimal.ensures.text
