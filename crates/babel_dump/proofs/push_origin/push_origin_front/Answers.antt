use Rattle.babel_dump.proofs.TextLemmas.{appended}
use Rattle.babel_dump.proofs.push_origin.push_origin_front.Goals as goal

pub returns-clause-text : goal.returns-clause-text
returns-clause-text c =
    let before = c.args.buffer.now.items in
    let prefixes = rw (c.dst.ensures.value, c.src.ensures.value) at c.push_addressed.ensures.text in
    let addressed = appended before _ _ _ _ c.push_text.ensures.text prefixes in
    let id = appended before _ _ _ _ (appended before _ _ _ _ addressed c.push_text-2.ensures.text) c.push_kept_id.ensures.text in
    appended before _ _ _ _ id c.push_text-3.ensures.text
