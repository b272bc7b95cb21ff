-- Each element finds its place in turn.
use Rattle.std.proofs.Common.{◌≡◌, Some, arith}
use Rattle.std.specs.List.{slice_get}
use Rattle.babel_trie.specs.declared.table.NodeNumber.{NodeNumber}
use Rattle.babel_trie.proofs.IndexLaws.{index_step}
use Rattle.babel_trie.proofs.NumberLaws.{slice_get_at}
use Rattle.babel_trie.proofs.index.Index.make_room.Goals as goal

pub loop-at-init : goal.loop-at-init
loop-at-init g c = record { found = λ x n below is. absurd (omega arith) }

pub loop-at-preserved : goal.loop-at-preserved
loop-at-preserved g c =
    let list = c.args.list.now in
    let element = c.index-list-at.result in
    let number : NodeNumber = record { 0 = c.loop-at.at } in
    let at : slice_get list number.0 ≡ Some element = slice_get_at list c.loop-at.at element c.loop-at-test.true c.index-list-at.is in
    index_step g.K.Ord.cmp g.K.LawfulOrd.mark list c.loop-at.self c.keep.new.self element number c.loop-at.invariant at
    (λ n below is. (let same = c.requires.distinct n.0 number.0 element is at in omega (arith, same, below)))
    c.in_ok-keep.ensures.kept c.in_ok-keep.ensures.others
