use Rattle.babel_dump.proofs.TextLemmas.{appended}
use Rattle.babel_dump.proofs.push_summary.push_family.Goals as goal

pub returns-clause-text : goal.returns-clause-text
returns-clause-text c =
    let before = c.args.buffer.now.items in
    let routes = appended before _ _ _ _ (appended before _ _ _ _ c.push_text.ensures.text c.push_text-2.ensures.text) c.push_decimal.ensures.text in
    let specific = appended before _ _ _ _ (appended before _ _ _ _ routes c.push_text-3.ensures.text) c.push_decimal-2.ensures.text in
    let unreachable = appended before _ _ _ _ (appended before _ _ _ _ specific c.push_text-4.ensures.text) c.push_decimal-3.ensures.text in
    appended before _ _ _ _ unreachable c.push_octet.ensures.text
