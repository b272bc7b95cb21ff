-- What is beside the block is counted once for each bit that leads to it.
use Rattle.std.proofs.Common.{◌≡◌, ◌*◌, ◌∙◌, ap, arith, ℕ}
use Rattle.babel_trie.specs.Counts.{sources_count}
use Rattle.babel_trie.proofs.counting.Node+Option+V.value_count.Goals as goal

pub returns : goal.returns
returns g c =
    let node = c.args.self.now in
    let counts = c.args.counts.now in
    let o : ℕ = sources_count counts node.outside in
    let first = c.value_count.ensures in
    let product : c.value_count.result * c.from.result ≡ node.skip * o = ap (λ n. n * c.from.result) first ∙ ap (λ n. o * n) c.from.ensures ∙ omega arith in
    omega (arith, product, c.saturating_mul-beside.ensures, c.value_count-low.ensures, c.value_count-2.ensures, c.saturating_add.ensures, c.saturating_add-2.ensures)
