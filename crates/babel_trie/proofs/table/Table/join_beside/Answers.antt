-- Two nodes are the halves of a node as they are; else both are opened.
use Rattle.std.proofs.Common.{Bool, true, false, List, sym, subst}
use Rattle.babel_trie.specs.Interned.{Joins, JoinsBy, Opens}
use Rattle.babel_trie.specs.Laid.{AreHalvesBy}
use Rattle.babel_trie.specs.Sound.{IsLooseBelow}
use Rattle.babel_trie.specs.declared.table.Loose.{Loose}
use Rattle.babel_trie.specs.declared.table.Loose.TheVariants.{Split}
use Rattle.babel_trie.specs.declared.table.Node.{Node}
use Rattle.babel_trie.specs.declared.table.Sources.{Sources}
use Rattle.babel_trie.specs.declared.table.Sources.TheVariants.{Stored}
use Rattle.babel_trie.proofs.NumberLaws.{one_opening, Opens-grows}
use Rattle.babel_trie.proofs.FormLaws.{Represents-in, joins_beside}
use Rattle.babel_trie.proofs.PartLaws.{on_ok_then}
use Rattle.babel_trie.proofs.PathLaws.{loose_below}
use Rattle.babel_trie.proofs.table.Table.join_beside.Goals as goal

pub interned-requires-clause-halves : goal.interned-requires-clause-halves
interned-requires-clause-halves g c =
    let nodes = c.args.self.now.nodes.items in
    subst (IsLooseBelow _) c.in-Split-Stored.is-0 (loose_below nodes c.args.inside.now c.requires.inside.trie c.requires.normal c.requires.inside.stands)

pub returns-in-Split-Stored-clause-joins : goal.returns-in-Split-Stored-clause-joins
returns-in-Split-Stored-clause-joins g c x opens =
    let old = c.args.self.now.nodes.items in
    let new = c.interned.new.self.nodes.items in
    let inside = c.args.inside.now in
    let node = c.in-Split-Stored.node in
    let keeps = c.in_ok-number.ensures.grows in
    let at : Opens old (Stored c.in-Split-Stored.field-0-1) x = subst (λ (s : Sources g.row.V.Denot). Opens old s x) c.in-Split-Stored.is-1 opens in
    let found : Opens new (Stored c.in_ok-number.number) inside = (node, c.in_ok-number.ensures.found, c.in-Split-Stored.is-0) in
    let made = joins_beside new old keeps c.args.low inside x node at.0 c.in-Split-Stored.is-0 at.2 (Stored c.in_ok-number.number) c.args.beside
    c.in_order.result.0 c.in_order.result.1 found (Opens-grows old new keeps c.args.beside x opens) c.in_order.ensures in
    subst (λ (m : Node g.row.V.Denot). JoinsBy c.args.low old inside x new (Split m)) (sym c.fork.ensures) made.0

pub opened-requires : goal.opened-requires
opened-requires g c = Represents-in c.args.self.now.nodes.items c.args.beside c.requires.beside.trie c.requires.beside.stands

joined_by : {V : Type 0} (old new : List (Node V)) (low : Bool) (inside beside first second whole : Loose V)
    → AreHalvesBy low inside beside first second → Joins old first second new whole → JoinsBy low old inside beside new whole
joined_by old new true inside beside first second whole by joins = subst (λ y. Joins old y beside new whole) by.0 (subst (λ y. Joins old first y new whole) by.1 joins)
joined_by old new false inside beside first second whole by joins = subst (λ y. Joins old y inside new whole) by.0 (subst (λ y. Joins old first y new whole) by.1 joins)

pub returns-clause-joins : goal.returns-clause-joins
returns-clause-joins g c = on_ok_then c.join.result c.join.ensures.joins (λ joins x opens.
    let old = c.args.self.now.nodes.items in
    let new = c.join.new.self.nodes.items in
    let one = one_opening old c.args.beside c.opened.result x c.opened.ensures opens in
    subst (λ (y : Loose g.row.V.Denot). JoinsBy c.args.low old c.args.inside.now y new c.join.new.whole) one
    (joined_by old new c.args.low c.args.inside.now c.opened.result c.in_order-2.result.0 c.in_order-2.result.1 c.join.new.whole
    c.in_order-2.ensures joins))
