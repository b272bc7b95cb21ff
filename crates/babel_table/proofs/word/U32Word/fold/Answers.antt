-- A number of 32 bits is its own rest.
use Rattle.std.proofs.Common.{◌≡◌, ℕ, ◌/◌, ◌%◌, ◌^◌, ◌<◌, sym, refl, arith}
use Rattle.babel_table.specs.Said.{folded, mixed}
use Rattle.babel_table.proofs.word.U32Word.fold.Goals as goal

folded_small : (seed bits : ℕ) → bits < 2 ^ 32 → folded seed bits ≡ mixed seed 0 bits
unfolding folded
folded_small seed bits small =
    let quotient : bits / 2 ^ 64 ≡ 0 = omega (arith, small) in
    let rest : bits % 2 ^ 64 ≡ bits = omega (arith, small) in
    rw (quotient, rest) refl

pub returns : goal.returns
returns c = rw (c.mixed.ensures, c.from.ensures) (sym (folded_small c.args.seed c.args.self c.ranges.self.fits))
