-- All addresses are in one block of 128 bits.
use Rattle.std.proofs.Common.{◌≡◌, ℕ, ◌-◌, ◌/◌, ◌^◌, ◌≤◌, nat_le, sym, ◌∙◌, ap, arith}
use Rattle.std.proofs.Math.Dec.{leb-zero}
use Rattle.std.proofs.Math.Nat.{div-eq_of_lt}
use Rattle.std.proofs.lemmas.Bool.{le-leb}
use Rattle.std.proofs.Math.Pow.{pow_mono}
use Rattle.babel_prefix.specs.Address.{block_of}
use Rattle.babel_trie.proofs.front.reaches.Goals as goal

pub returns-then-bits-ge128 : goal.returns-then-bits-ge128
returns-then-bits-ge128 g c =
    let bits : ℕ = c.args.width - (block_of c.args.row.now.0).len in
    let many : 128 ≤ bits = omega (arith, c.if-bits-ge128.true, c.saturating_sub-bits.ensures, c.len.ensures.value) in
    let most = pow_mono {i = 128} {j = bits} many in
    let zero : c.args.at / 2 ^ bits ≡ 0 = div-eq_of_lt (omega (arith, most)) in
    le-leb 128 c.saturating_sub-bits.result c.if-bits-ge128.true
    ∙ sym (ap (λ n. nat_le n ((block_of c.args.row.now.0).start / 2 ^ bits)) zero ∙ leb-zero ((block_of c.args.row.now.0).start / 2 ^ bits))
