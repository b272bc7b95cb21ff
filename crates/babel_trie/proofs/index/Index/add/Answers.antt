-- The list with the new element has its number.
use Rattle.babel_trie.proofs.IndexLaws.{index_push}
use Rattle.babel_trie.proofs.index.Index.add.Goals as goal

pub returns : goal.returns
returns g c =
    index_push g.K.Ord.cmp g.K.LawfulOrd.mark c.args.list.now c.make_room.new.self c.keep.new.self c.args.element.now c.args.number c.in_ok-make_room.ensures.indexed
    c.requires.next c.requires.absent c.in_ok-keep.ensures.kept c.in_ok-keep.ensures.others
