-- A block of 128 bits is all addresses.
use Rattle.std.proofs.Common.{arith}
use Rattle.std.proofs.Math.Pow.{pow_mono}
use Rattle.babel_trie.proofs.fit.last_address.Goals as goal

pub returns-then-bits-ge128 : goal.returns-then-bits-ge128
returns-then-bits-ge128 c = omega (arith, c.requires, pow_mono {i = 128} {j = c.args.bits} c.if-bits-ge128.true)
