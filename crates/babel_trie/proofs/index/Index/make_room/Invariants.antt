-- So many elements are found.
use Rattle.babel_trie.specs.Index.{IsIndexedTo}
use Rattle.babel_trie.proofs.index.Index.make_room.Given as goal

abbrev pub invariant-loop-at : goal.invariant-loop-at
invariant-loop-at g l = IsIndexedTo g.K.Ord.cmp g.K.LawfulOrd.mark l.at l.list l.self
