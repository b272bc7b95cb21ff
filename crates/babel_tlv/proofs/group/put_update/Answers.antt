-- The fixed part, the prefix's octets and the source's are the Update.
use Rattle.std.proofs.Common.{◌≡◌, ◌∙◌, ◌++◌, List, ℕ, drop, ap, sym, append_assoc, rules}
use Rattle.babel_tlv.specs.Group.{prefix_octets, source_sub}
use Rattle.babel_tlv.proofs.group.put_update.Goals as goal

pub returns-clause-items : goal.returns-clause-items
returns-clause-items c =
    let old = c.args.group.now.items in
    let key = c.args.key.now in
    let head = c.update_head-head.result in
    let field = drop c.args.omit (prefix_octets key.dst) in
    let source = source_sub key.src in
    let octets : c.put_source.new.group.items ≡ old ++ head ++ field ++ source = search rules in
    octets ∙ ap (λ (o : List ℕ). o ++ source) (append_assoc old head field) ∙ append_assoc old (head ++ field) source
    ∙ ap (λ (o : List ℕ). old ++ o) (sym c.update_head-head.ensures)
