-- The rows of the whole block come first, and where others are left a bit is left.
use Rattle.std.proofs.Common.{◌-◌, refl, arith}
use Rattle.std.proofs.Math.Pow.{pow_mono}
use Rattle.babel_trie.specs.Rows.{source_block}
use Rattle.babel_trie.proofs.PlaceLaws.{whole_first}
use Rattle.babel_trie.proofs.PartLaws.{rest_sorted, bit_left, parts_of}
use Rattle.babel_trie.proofs.rows.parts.Goals as goal

pub own_and_rest-requires : goal.own_and_rest-requires
own_and_rest-requires g c =
    let a = c.args in
    whole_first source_block a.width a.bits a.start a.rows.now c.requires.place c.requires.rows (a.width - a.bits) refl

pub upper_start-middle-requires-clause-some : goal.upper_start-middle-requires-clause-some
upper_start-middle-requires-clause-some g c =
    bit_left c.own_and_rest.result.0.now c.own_and_rest.result.1.now c.requires.place c.requires.rows c.own_and_rest.ensures.parts c.own_and_rest.ensures.rest c.is_empty.ensures c.if-is_empty.false

pub upper_start-middle-requires-clause-room : goal.upper_start-middle-requires-clause-room
upper_start-middle-requires-clause-room g c =
    omega (arith, c.requires.place.room, pow_mono {i = c.args.width} {j = 128} c.requires.width)

pub low_and_high-requires : goal.low_and_high-requires
low_and_high-requires g c =
    rest_sorted c.own_and_rest.result.0.now c.own_and_rest.result.1.now c.upper_start-middle.result c.requires.rows c.own_and_rest.ensures.parts

pub returns-clause-halves : goal.returns-clause-halves
returns-clause-halves g c =
    let own = c.own_and_rest.ensures in
    let low = c.low_and_high.ensures in
    let some = bit_left c.own_and_rest.result.0.now c.own_and_rest.result.1.now c.requires.place c.requires.rows own.parts own.rest c.is_empty.ensures c.if-is_empty.false in
    parts_of some c.requires.place c.requires.rows own.parts own.own own.rest c.upper_start-middle.ensures low.parts low.low low.high
