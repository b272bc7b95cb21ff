-- A value beside a node makes its path longer.
use Rattle.std.proofs.Common.{◌+◌, ◌*◌, ◌^◌, ◌∙◌, ap, sym, subst, arith}
use Rattle.babel_trie.specs.Interned.{IsNormal, IsNormalLoose, AreUnited}
use Rattle.babel_trie.specs.declared.table.Loose.{Loose}
use Rattle.babel_trie.specs.declared.table.Loose.TheVariants.{Same, Split}
use Rattle.babel_trie.specs.declared.table.Node.{Node}
use Rattle.babel_trie.proofs.FormLaws.{longer_node, united_low, united_high}
use Rattle.babel_trie.proofs.table.united.Goals as goal

pub returns-then-takes-clause-some : goal.returns-then-takes-clause-some
returns-then-takes-clause-some g c nodes low high =
    let node = c.in-Same-Split.node in
    let v = c.in-Same-Split.value in
    let n : IsNormal nodes node = subst (IsNormalLoose nodes) c.in-Same-Split.is-1 high in
    let here = united_high nodes node v n (c.takes.ensures.yes c.if-takes.true) in
    let longer : AreUnited nodes (Same v) (Split node) (Split c.longer.result) =
    subst (λ (m : Node g.row.V.Denot). AreUnited nodes (Same v) (Split node) (Split m))
    (ap (λ p. longer_node nodes node p v) {x = node.path + 2 ^ node.skip} {y = node.path + 1 * 2 ^ node.skip} (omega arith) ∙ sym c.longer.ensures) here in
    subst (λ (x : Loose g.row.V.Denot). AreUnited nodes x c.args.high.now (Split c.longer.result)) (sym c.in-Same-Split.is-0)
    (subst (λ (x : Loose g.row.V.Denot). AreUnited nodes (Same v) x (Split c.longer.result)) (sym c.in-Same-Split.is-1) longer)

pub returns-then-takes-2-clause-some : goal.returns-then-takes-2-clause-some
returns-then-takes-2-clause-some g c nodes low high =
    let node = c.in-Split-Same.node in
    let v = c.in-Split-Same.value in
    let n : IsNormal nodes node = subst (IsNormalLoose nodes) c.in-Split-Same.is-0 low in
    let here = united_low nodes node v n (c.takes-in-Split-Same.ensures.yes c.if-takes-2.true) in
    let longer : AreUnited nodes (Split node) (Same v) (Split c.longer-then-takes-2.result) =
    subst (λ (m : Node g.row.V.Denot). AreUnited nodes (Split node) (Same v) (Split m))
    (ap (λ p. longer_node nodes node p v) {x = node.path} {y = node.path + 0 * 2 ^ node.skip} (omega arith) ∙ sym c.longer-then-takes-2.ensures) here in
    subst (λ (x : Loose g.row.V.Denot). AreUnited nodes x c.args.high.now (Split c.longer-then-takes-2.result)) (sym c.in-Split-Same.is-0)
    (subst (λ (x : Loose g.row.V.Denot). AreUnited nodes (Split node) x (Split c.longer-then-takes-2.result)) (sym c.in-Split-Same.is-1) longer)
