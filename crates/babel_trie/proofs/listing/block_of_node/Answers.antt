-- A path is shorter than the bits that are left.
use Rattle.std.proofs.Common.{◌-◌, ◌%◌, ap, arith}
use Rattle.std.proofs.Math.Pow.{pow_mono}
use Rattle.std.proofs.lemmas.Nat.{pow_pos}
use Rattle.babel_prefix.specs.Width.{width_of}
use Rattle.babel_trie.proofs.ListLaws.{width_le}
use Rattle.babel_trie.proofs.SkipLaws.{place_in}
use Rattle.babel_trie.proofs.listing.block_of_node.Goals as goal

pub shifted-first-requires-clause-bits : goal.shifted-first-requires-clause-bits
shifted-first-requires-clause-bits g c = omega (arith, c.requires.skip, c.requires.bits)

pub shifted-first-requires-clause-place : goal.shifted-first-requires-clause-place
shifted-first-requires-clause-place g c =
    omega (arith, c.requires.place, pow_mono {i = width_of c.args.family - c.args.bits} {j = width_of c.args.family - c.args.node.now.skip} (omega (arith, c.requires.skip)))

pub bit_at-requires : goal.bit_at-requires
bit_at-requires g c = omega (arith, c.requires.skip, c.requires.bits, width_le c.args.family)

pub nonzero_rem-result : goal.nonzero_rem-result
nonzero_rem-result g c = omega (arith, c.bit_at.ensures, pow_pos c.args.node.now.skip)

pub overflow_add-result : goal.overflow_add-result
overflow_add-result g c =
    let w = width_of c.args.family in
    let node = c.args.node.now in
    let at = place_in w c.args.bits node.skip node.path c.args.place (omega (arith, c.requires.skip)) c.requires.bits c.requires.place in
    omega (arith, at, c.shifted-first.ensures, ap (λ n. node.path % n) c.bit_at.ensures, pow_mono {i = w - (c.args.bits - node.skip)} {j = 128} (omega (arith, width_le c.args.family)))

pub returns-clause-inside : goal.returns-clause-inside
returns-clause-inside g c =
    let w = width_of c.args.family in
    let node = c.args.node.now in
    let at = place_in w c.args.bits node.skip node.path c.args.place (omega (arith, c.requires.skip)) c.requires.bits c.requires.place in
    omega (arith, at, c.shifted-first.ensures, ap (λ n. node.path % n) c.bit_at.ensures)

pub returns-clause-place : goal.returns-clause-place
returns-clause-place g c = omega (arith, c.shifted-first.ensures, ap (λ n. c.args.node.now.path % n) c.bit_at.ensures)
