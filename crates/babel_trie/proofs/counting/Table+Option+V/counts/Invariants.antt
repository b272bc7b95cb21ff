-- The nodes so far are counted.
use Rattle.babel_trie.specs.Counts.{AreCounted}
use Rattle.babel_trie.proofs.counting.Table+Option+V.counts.Given as goal

abbrev pub invariant-loop-node : goal.invariant-loop-node
invariant-loop-node g l = AreCounted l.self.nodes.items l.node-index l.counts.items
