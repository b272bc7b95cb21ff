use Rattle.std.proofs.Common.{ℕ, List, ◌++◌, ◌∙◌, ap}
use Rattle.babel_dump.proofs.Spellings.{prefix_parts}
use Rattle.babel_dump.proofs.TextLemmas.{appended}
use Rattle.babel_dump.proofs.push_addr.push_prefix.Goals as goal

pub returns-clause-text : goal.returns-clause-text
returns-clause-text c =
    let before = c.args.buffer.now.items in
    let slash = appended before _ _ _ _ (rw c.addr.ensures.value at c.push_addr.ensures.text) c.push_octet.ensures.text in
    appended before _ _ _ _ slash (rw c.len.ensures.value at c.push_small.ensures.text)
    ∙ ap (λ (t : List ℕ). before ++ t) (prefix_parts c.args.spelling c.args.prefix)
