-- What the nodes name stands before them, and a search for one of them comes to its number.
use Rattle.std.proofs.Common.{max, length, sym, arith}
use Rattle.std.proofs.lemmas.List.{take_all}
use Rattle.babel_trie.proofs.IndexLaws.{index_take}
use Rattle.babel_trie.proofs.NumberLaws.{sound_after_take}
use Rattle.babel_trie.proofs.table.Table.give_up_from.Goals as goal

pub returns-then-more-max-clause-nodes : goal.returns-then-more-max-clause-nodes
returns-then-more-max-clause-nodes g c =
    let nodes = c.args.self.now.nodes.items in
    let len = max c.args.kept (length nodes) in
    (len, omega arith, sym (take_all len nodes (omega arith)))

pub returns-clause-sound : goal.returns-clause-sound
returns-clause-sound g c =
    sound_after_take _ c.args.self.now.nodes.items c.args.self.now.numbers c.args.kept c.requires.sound
    (index_take _ _ c.args.self.now.nodes.items c.args.kept c.args.self.now.numbers c.requires.sound.indexed)
    c.truncate.new.self.items c.truncate.ensures.items
