-- A number lies between the power of its highest one and the next power.
use Rattle.std.proofs.Common.{◌≡◌, ◌+◌, ◌^◌, ◌<◌, arith}
use Rattle.babel_trie.proofs.Zeros.{top_bits}
use Rattle.babel_trie.proofs.fit.room_bits.Goals as goal

pub returns-in-Some-clause-fits : goal.returns-in-Some-clause-fits
returns-in-Some-clause-fits c =
    let is : c.in-Some.size ≡ c.args.above + 1 = c.in-Some.ensures.1 in
    let fits : c.args.above + 1 < 2 ^ 128 = c.in-Some.ensures.0 in
    omega (arith, (top_bits c.in-Some.size (omega arith) (omega arith)).0)

pub returns-in-Some-clause-most : goal.returns-in-Some-clause-most
returns-in-Some-clause-most c =
    let is : c.in-Some.size ≡ c.args.above + 1 = c.in-Some.ensures.1 in
    let fits : c.args.above + 1 < 2 ^ 128 = c.in-Some.ensures.0 in
    omega (arith, (top_bits c.in-Some.size (omega arith) (omega arith)).1)
