-- What tells apart what the sources are, stored.
use Rattle.babel_trie.proofs.NumberLaws.{Stands-grows}
use Rattle.babel_trie.proofs.FormLaws.{opened_trie, opened_stands}
use Rattle.babel_trie.proofs.PathLaws.{loose_below}
use Rattle.babel_trie.proofs.comparison.Comparison.told_sources.Goals as goal

pub stored-requires-clause-below : goal.stored-requires-clause-below
stored-requires-clause-below g c =
    let a = c.args in
    let nodes = a.table.now.nodes.items in
    let left = opened_trie nodes a.bits a.left c.opened.result c.opened.ensures c.requires.left in
    let right = opened_trie nodes a.bits a.right c.opened-2.result c.opened-2.ensures c.requires.right in
    let told = c.in_ok-told.ensures.told left.trie right.trie left.stands right.stands in
    loose_below c.told.new.self.differences.nodes.items c.in_ok-told.told told.0 c.in_ok-told.ensures.normal told.1

pub returns-clause-told : goal.returns-clause-told
returns-clause-told g c t u p q =
    let a = c.args in
    let nodes = a.table.now.nodes.items in
    let new = c.stored.new.self.nodes.items in
    let told = c.in_ok-told.ensures.told t u (opened_stands nodes a.left c.opened.result t c.opened.ensures p) (opened_stands nodes a.right c.opened-2.result u c.opened-2.ensures q) in
    (told.0, (c.in_ok-told.told, c.in_ok-sources.ensures.opens, Stands-grows c.told.new.self.differences.nodes.items new c.in_ok-sources.ensures.keeps c.in_ok-told.told told.0 told.1), told.2)
