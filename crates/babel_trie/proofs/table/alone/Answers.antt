-- A half beside the value, and then the bits before the last.
use Rattle.std.proofs.Common.{◌≡◌, inl, true, refl, sym, ◌∙◌, ap, arith}
use Rattle.std.proofs.lemmas.Bool.{false≢true}
use Rattle.babel_trie.specs.declared.table.Loose.TheVariants.{Same}
use Rattle.babel_trie.proofs.AlongLaws.{one_value, alone_node, one_bit, more_bits}
use Rattle.babel_trie.proofs.table.alone.Goals as goal

pub returns-then-are_same-clause-along : goal.returns-then-are_same-clause-along
returns-then-are_same-clause-along g c nodes t p =
    let v = c.args.beside in
    let same : c.args.inside ≡ v = c.are_same.ensures.0 c.if-are_same.true in
    one_value nodes v (Same c.args.inside) c.args.path t p c.args.skip true (Same c.args.inside) (Same v) (Same v) v (refl, refl) (inl (v, ap Same same, refl, refl)) refl

pub returns-then-skip-eq1-clause-along : goal.returns-then-skip-eq1-clause-along
returns-then-skip-eq1-clause-along g c nodes t p =
    let apart : c.args.inside ≡ c.args.beside → ⊥ = λ e. false≢true (sym c.if-are_same.false ∙ c.are_same.ensures.1 e) in
    let base = alone_node nodes c.args.beside c.args.inside c.by_path-low.result.0 c.by_path-low.result.1 c.args.path c.fork-node.result t p c.by_path-low.ensures apart c.fork-node.ensures in
    one_bit nodes c.args.beside (Same c.args.inside) c.args.path t p c.args.skip c.fork-node.result c.if-skip-eq1.true c.requires.path base.0 base.1

pub returns-clause-along : goal.returns-clause-along
returns-clause-along g c nodes t p =
    let apart : c.args.inside ≡ c.args.beside → ⊥ = λ e. false≢true (sym c.if-are_same.false ∙ c.are_same.ensures.1 e) in
    let base = alone_node nodes c.args.beside c.args.inside c.by_path-low.result.0 c.by_path-low.result.1 c.args.path c.fork-node.result t p c.by_path-low.ensures apart c.fork-node.ensures in
    (more_bits nodes c.args.beside (Same c.args.inside) c.args.path t p c.args.skip c.fork-node.result c.longer.result
    (omega (arith, c.requires.some, c.if-skip-eq1.false)) c.requires.path c.longer.ensures base.0 base.1).0
