-- The next node is counted from those before it.
use Rattle.std.proofs.Common.{◌≡◌, ◌+◌, ◌<◌, [], ◌∷◌, ◌++◌, length, get_or, Some, sym, ◌∙◌, ap, subst, arith}
use Rattle.std.specs.List.{slice_get}
use Rattle.babel_trie.specs.Counts.{AreCounted, node_count}
use Rattle.babel_trie.specs.Sound.{HasHalvesBelow}
use Rattle.babel_trie.proofs.CountLaws.{counted_none, counted_more}
use Rattle.babel_trie.proofs.NumberLaws.{slice_get_at}
use Rattle.babel_trie.proofs.counting.Table+Option+V.counts.Goals as goal

pub loop-node-init : goal.loop-node-init
loop-node-init g c = subst (AreCounted c.args.self.now.nodes.items 0) (sym c.in_ok-counts.ensures.items) (counted_none c.args.self.now.nodes.items)

pub value_count-count-requires : goal.value_count-count-requires
value_count-count-requires g c =
    let nodes = c.args.self.now.nodes.items in
    let i = c.loop-node.node-index in
    let node = c.node-item.result in
    let same = c.nodes-node-items.ensures in
    let i_in : i < length nodes = subst (λ xs. i < length xs) same c.loop-node-test.true in
    let is : node ≡ get_or nodes i node = c.node-item.is ∙ ap (λ xs. get_or xs i node) same in
    let at : slice_get nodes i ≡ Some node = slice_get_at nodes i node i_in is in
    subst (λ n. HasHalvesBelow n node) (sym (ap length c.deref.ensures.value ∙ c.loop-node.invariant.len)) (c.requires.lower i node at)

pub loop-node-preserved : goal.loop-node-preserved
loop-node-preserved g c =
    let nodes = c.args.self.now.nodes.items in
    let i = c.loop-node.node-index in
    let node = c.node-item.result in
    let counts = c.loop-node.counts.items in
    let same = c.nodes-node-items.ensures in
    let i_in : i < length nodes = subst (λ xs. i < length xs) same c.loop-node-test.true in
    let is : node ≡ get_or nodes i node = c.node-item.is ∙ ap (λ xs. get_or xs i node) same in
    let at : slice_get nodes i ≡ Some node = slice_get_at nodes i node i_in is in
    let pushed = c.in_ok-push.ensures.items ∙ ap (λ n. counts ++ n ∷ []) (c.value_count-count.ensures ∙ ap (λ ns. node_count ns node) c.deref.ensures.value) in
    subst (AreCounted nodes (i + 1)) (sym pushed) (counted_more nodes i counts node c.loop-node.invariant (c.requires.lower i node at) at)

pub returns : goal.returns
returns g c =
    let nodes = c.args.self.now.nodes.items in
    let e : c.loop-node.node-index ≡ length nodes = subst (λ xs. c.loop-node.node-index ≡ length xs) c.nodes-node-items.ensures
    (omega (arith, c.loop-node-test.false, c.loop-node.auto.node-index-end)) in
    subst (λ n. AreCounted nodes n c.loop-node.counts.items) e c.loop-node.invariant
