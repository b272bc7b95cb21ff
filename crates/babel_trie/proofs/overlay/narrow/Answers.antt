-- One value is in each block, and a node is along the bits that its path shares with the rows.
use Rattle.std.proofs.Common.{◌-◌, sym, subst, arith}
use Rattle.std.proofs.Math.Pow.{pow_mono}
use Rattle.babel_trie.specs.Interned.{Stands, IsTrie, IsNormal, IsNormalLoose}
use Rattle.babel_trie.specs.Inner.{IsInside}
use Rattle.babel_trie.specs.Rows.{source_block}
use Rattle.babel_trie.specs.declared.table.Loose.TheVariants.{Split}
use Rattle.babel_trie.proofs.FormLaws.{some_bits}
use Rattle.babel_trie.proofs.InsideLaws.{past_inside, same_inside, further-normal}
use Rattle.babel_trie.proofs.SharedLaws.{around_inner}
use Rattle.babel_trie.proofs.overlay.narrow.Goals as goal

pub shared-requires-clause-skip : goal.shared-requires-clause-skip
shared-requires-clause-skip g c =
    let trie = c.requires.trie in
    let less = some_bits trie.0 c.args.bits c.in-Split.node (subst (IsTrie c.args.bits trie.0) c.in-Split.is trie.1) in
    omega (arith, less, c.requires.place.bits_in, c.requires.width)

pub shared-requires-clause-room : goal.shared-requires-clause-room
shared-requires-clause-room g c = omega (arith, c.requires.place.room, pow_mono {i = c.args.width} {j = 128} c.requires.width)

pub past-requires-clause-width : goal.past-requires-clause-width
past-requires-clause-width g c =
    let trie = c.requires.trie in
    let less = some_bits trie.0 c.args.bits c.in-Split.node (subst (IsTrie c.args.bits trie.0) c.in-Split.is trie.1) in
    omega (arith, less, c.requires.place.bits_in, c.requires.width)

pub returns-in_ok-block-in-Same-clause-inside : goal.returns-in_ok-block-in-Same-clause-inside
returns-in_ok-block-in-Same-clause-inside g c nodes t n p =
    same_inside nodes c.args.trie.now c.in-Same.value _ _ t c.in-Same.is p

pub returns-in_ok-block-in-Split-clause-inner : goal.returns-in_ok-block-in-Split-clause-inner
returns-in_ok-block-in-Split-clause-inner g c =
    let a = c.args in
    let inner = c.in_ok-inner-in-Split.inner in
    let shared = c.in_ok-block-in-Split.ensures in
    around_inner inner.bits a.bits c.in_ok-block-in-Split.block.bits inner.path c.in_ok-block-in-Split.block.path shared.around shared.smaller c.in_ok-inner-in-Split.ensures.path_in shared.own
    source_block a.width a.start inner.start c.in_ok-block-in-Split.block.start a.rows.now c.requires.place c.in_ok-inner-in-Split.ensures shared.start

pub returns-in_ok-block-in-Split-clause-normal : goal.returns-in_ok-block-in-Split-clause-normal
returns-in_ok-block-in-Split-clause-normal g c nodes n =
    let node = c.in-Split.node in
    let normal : IsNormal nodes node = subst (IsNormalLoose nodes) c.in-Split.is n in
    subst (IsNormal nodes) (sym c.past.ensures) (further-normal nodes _ node c.in_ok-block-in-Split.ensures.few normal)

pub returns-in_ok-block-in-Split-clause-inside : goal.returns-in_ok-block-in-Split-clause-inside
returns-in_ok-block-in-Split-clause-inside g c nodes t n p =
    let node = c.in-Split.node in
    let block = c.in_ok-block-in-Split.block in
    let passed = c.args.bits - block.bits in
    let past = past_inside nodes node c.in-Constant.beside c.in-Constant.is t passed block.path c.in_ok-block-in-Split.ensures.few
    c.in_ok-block-in-Split.ensures.other (subst (λ x. Stands nodes x t) c.in-Split.is p) in
    subst (λ m. IsInside nodes (Split m) passed block.path c.in-Constant.beside t) (sym c.past.ensures) past
