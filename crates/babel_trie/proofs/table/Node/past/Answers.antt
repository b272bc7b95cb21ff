-- The fields of the node some bits further on.
use Rattle.std.proofs.Common.{◌%◌, refl, ap}
use Rattle.babel_trie.proofs.InsideLaws.{further-is}
use Rattle.babel_trie.proofs.table.Node.past.Goals.{then-skip-eq0, else-skip-eq0}
use Rattle.babel_trie.proofs.table.Node.past.Goals as goal

pub returns : goal.returns
returns g c =
    let node = c.args.self.now in
    further-is c.args.passed node _ c.requires.some c.requires.passed refl (ap (λ n. node.path % n) c.bit_at.ensures)
    (λ none. elim c.if-skip-eq0.branch [ then-skip-eq0 w ↦ w.result-is | else-skip-eq0 w ↦ absurd (w.if-skip-eq0.false none) ])
    (λ more. elim c.if-skip-eq0.branch [ then-skip-eq0 w ↦ absurd (more w.if-skip-eq0.true) | else-skip-eq0 w ↦ w.result-is ])
    refl refl
