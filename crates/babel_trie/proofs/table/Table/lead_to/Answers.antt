-- A half beside the value, and then the bits before the last.
use Rattle.std.proofs.Common.{refl, sym, subst, arith}
use Rattle.babel_trie.specs.Interned.{AreUnited}
use Rattle.babel_trie.specs.Laid.{IsAlong}
use Rattle.babel_trie.specs.Shape.{is_low}
use Rattle.babel_trie.specs.declared.table.Loose.{Loose}
use Rattle.babel_trie.specs.declared.table.Loose.TheVariants.{Split}
use Rattle.babel_trie.proofs.NumberLaws.{Stands-grows}
use Rattle.babel_trie.proofs.AlongLaws.{first_bit, one_value, one_bit, more_bits, few_bits, halves_tries, shorter_trie}
use Rattle.babel_trie.proofs.table.Table.lead_to.Goals as goal

pub join-requires-clause-low : goal.join-requires-clause-low
join-requires-clause-low g c =
    let nodes = c.args.self.now.nodes.items in
    (halves_tries nodes c.args.value (is_low 1 c.args.path) c.args.trie.now c.by_path-low.result.0 c.by_path-low.result.1 c.by_path-low.ensures
    (shorter_trie nodes c.args.value c.args.skip c.args.trie.now c.requires.some c.requires.inside)).0

pub join-requires-clause-high : goal.join-requires-clause-high
join-requires-clause-high g c =
    let nodes = c.args.self.now.nodes.items in
    (halves_tries nodes c.args.value (is_low 1 c.args.path) c.args.trie.now c.by_path-low.result.0 c.by_path-low.result.1 c.by_path-low.ensures
    (shorter_trie nodes c.args.value c.args.skip c.args.trie.now c.requires.some c.requires.inside)).1

pub returns-in_default-clause-along : goal.returns-in_default-clause-along
returns-in_default-clause-along g c t p =
    let new = c.join.new.self.nodes.items in
    let stands = Stands-grows c.args.self.now.nodes.items new c.in_ok-join.ensures.keeps c.args.trie.now t p in
    one_value new c.args.value c.args.trie.now c.args.path t stands c.args.skip (is_low 1 c.args.path) c.by_path-low.result.0 c.by_path-low.result.1
    c.join.new.whole c.in_default.field-0 c.by_path-low.ensures c.in_ok-join.ensures.united c.in_default.is

pub returns-else-skip-gt1-clause-along : goal.returns-else-skip-gt1-clause-along
returns-else-skip-gt1-clause-along g c t p =
    let new = c.join.new.self.nodes.items in
    let stands = Stands-grows c.args.self.now.nodes.items new c.in_ok-join.ensures.keeps c.args.trie.now t p in
    let made : AreUnited new c.by_path-low.result.0 c.by_path-low.result.1 (Split c.in-Split.node) =
    subst (AreUnited new c.by_path-low.result.0 c.by_path-low.result.1) c.in-Split.is c.in_ok-join.ensures.united in
    let first = first_bit new c.args.value c.args.trie.now c.args.path t stands (is_low 1 c.args.path) c.by_path-low.result.0 c.by_path-low.result.1 c.in-Split.node refl c.by_path-low.ensures made in
    subst (λ (x : Loose g.row.V.Denot). IsAlong new x c.args.skip c.args.path c.args.value t) (sym c.in-Split.is)
    (one_bit new c.args.value c.args.trie.now c.args.path t stands c.args.skip c.in-Split.node
    (omega (arith, c.requires.some, c.if-skip-gt1.false)) c.requires.path first.0 first.1)

pub longer-requires-clause-skip : goal.longer-requires-clause-skip
longer-requires-clause-skip g c =
    let t = c.requires.inside.trie in
    let p = c.requires.inside.stands in
    let new = c.join.new.self.nodes.items in
    let stands = Stands-grows c.args.self.now.nodes.items new c.in_ok-join.ensures.keeps c.args.trie.now t p in
    let made : AreUnited new c.by_path-low.result.0 c.by_path-low.result.1 (Split c.in-Split.node) =
    subst (AreUnited new c.by_path-low.result.0 c.by_path-low.result.1) c.in-Split.is c.in_ok-join.ensures.united in
    let first = first_bit new c.args.value c.args.trie.now c.args.path t stands (is_low 1 c.args.path) c.by_path-low.result.0 c.by_path-low.result.1 c.in-Split.node refl c.by_path-low.ensures made in
    few_bits new c.args.value c.args.trie.now c.args.path t stands c.args.skip c.in-Split.node c.requires.some c.requires.width c.requires.inside.fits first.0

pub returns-then-skip-gt1-clause-along : goal.returns-then-skip-gt1-clause-along
returns-then-skip-gt1-clause-along g c t p =
    let new = c.join.new.self.nodes.items in
    let stands = Stands-grows c.args.self.now.nodes.items new c.in_ok-join.ensures.keeps c.args.trie.now t p in
    let made : AreUnited new c.by_path-low.result.0 c.by_path-low.result.1 (Split c.in-Split.node) =
    subst (AreUnited new c.by_path-low.result.0 c.by_path-low.result.1) c.in-Split.is c.in_ok-join.ensures.united in
    let first = first_bit new c.args.value c.args.trie.now c.args.path t stands (is_low 1 c.args.path) c.by_path-low.result.0 c.by_path-low.result.1 c.in-Split.node refl c.by_path-low.ensures made in
    (more_bits new c.args.value c.args.trie.now c.args.path t stands c.args.skip c.in-Split.node c.longer.result c.if-skip-gt1.true c.requires.path c.longer.ensures first.0 first.1).0

pub returns-then-skip-gt1-clause-normal : goal.returns-then-skip-gt1-clause-normal
returns-then-skip-gt1-clause-normal g c =
    let t = c.requires.inside.trie in
    let p = c.requires.inside.stands in
    let new = c.join.new.self.nodes.items in
    let stands = Stands-grows c.args.self.now.nodes.items new c.in_ok-join.ensures.keeps c.args.trie.now t p in
    let made : AreUnited new c.by_path-low.result.0 c.by_path-low.result.1 (Split c.in-Split.node) =
    subst (AreUnited new c.by_path-low.result.0 c.by_path-low.result.1) c.in-Split.is c.in_ok-join.ensures.united in
    let first = first_bit new c.args.value c.args.trie.now c.args.path t stands (is_low 1 c.args.path) c.by_path-low.result.0 c.by_path-low.result.1 c.in-Split.node refl c.by_path-low.ensures made in
    (more_bits new c.args.value c.args.trie.now c.args.path t stands c.args.skip c.in-Split.node c.longer.result c.if-skip-gt1.true c.requires.path c.longer.ensures first.0 first.1).1
