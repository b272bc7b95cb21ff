use Rattle.babel_dump.proofs.TextLemmas.{appended}
use Rattle.babel_dump.proofs.push_summary.push_summary.Goals as goal

pub returns-clause-text : goal.returns-clause-text
returns-clause-text c =
    let before = c.args.buffer.now.items in
    let families = appended before _ _ _ _ c.push_family.ensures.text c.push_family-2.ensures.text in
    let ids = appended before _ _ _ _ (appended before _ _ _ _ families c.push_text.ensures.text) c.push_decimal.ensures.text in
    let hops = appended before _ _ _ _ (appended before _ _ _ _ ids c.push_text-2.ensures.text) c.push_decimal-2.ensures.text in
    appended before _ _ _ _ hops c.push_octet.ensures.text
