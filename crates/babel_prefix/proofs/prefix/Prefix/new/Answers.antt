-- The address with its low bits cleared is a prefix.
use Rattle.std.proofs.Common.{arith}
use Rattle.babel_prefix.proofs.BlockLaws.{IsBlock-block_at}
use Rattle.babel_prefix.proofs.prefix.Prefix.new.Goals as goal

pub invariant_of-result : goal.invariant_of-result
invariant_of-result c =
    rw (c.new.ensures, c.clear_low-bits.ensures, c.bits.ensures.value, c.width-width.ensures, c.family.ensures, c.family-2.ensures)
    (IsBlock-block_at _ _ _ (grind arith) c.bits.ensures.fits)
