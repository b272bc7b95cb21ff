-- What the counts of zeros say of the blocks that fit.
use Rattle.std.proofs.Common.{◌≡◌, inl, inr, ℕ, suc, ◌+◌, ◌-◌, ◌%◌, ◌^◌, ◌<◌, ◌≤◌, ◌∙◌, ap, subst, arith}
use Rattle.std.specs.Int.{w128}
use Rattle.std.specs.Int.Count.{count_leading_zeros, count_trailing_zeros, trailing_of_zero}
use Rattle.std.proofs.lemmas.Bool.{cases_lt}
use Rattle.std.proofs.lemmas.Nat.{pow_pos, leading_top}
use Rattle.std.proofs.lemmas.Nat.Bits.{bit_at-trailing_zeros}
use Rattle.std.proofs.Math.Nat.{pow-le-pow_right}
use Rattle.babel_trie.specs.Cut.{IsLargestFit}
use Rattle.babel_trie.proofs.Multiples.{fewer_zeros, zeros_below, bit_ends}

-- a number is below the next power after its highest one
pub top_bits : (n : ℕ) → 0 < n → n < 2 ^ 128 → (2 ^ (127 - count_leading_zeros 128 n) ≤ n) × (n < 2 ^ (127 - count_leading_zeros 128 n + 1))
top_bits n some fits =
    let t = leading_top 128 n some fits in
    let j : ℕ = t.0 in
    let place : count_leading_zeros 128 n + suc j ≡ 128 = t.1 in
    let P : ℕ → Type 0 = λ k. (2 ^ k ≤ n) × (n < 2 ^ (k + 1)) in
    let Q : ℕ → Type 0 = λ k. n < 2 ^ k in
    subst P {x = j} {y = 127 - count_leading_zeros 128 n} (omega arith) (t.2, subst Q {x = suc j} {y = j + 1} (omega arith) t.3)

-- a number is a multiple of the power of its zeros, and of no higher one
pub aligned_at_zeros : (n : ℕ) → n < 2 ^ 128 → n % 2 ^ count_trailing_zeros 128 n ≡ 0
aligned_at_zeros n fits =
    elim (cases_lt 0 n) [
      | inl some ↦ zeros_below n (count_trailing_zeros 128 n) (bit_at-trailing_zeros w128 n some fits).2
      | inr none ↦
          let z : n ≡ 0 = omega arith in
          omega (arith, pow_pos (count_trailing_zeros 128 n))
    ]

pub zeros_end : (n more : ℕ) → 0 < n → n < 2 ^ 128 → count_trailing_zeros 128 n < more → n % 2 ^ more ≡ 0 → ⊥
zeros_end n more some fits lt e = bit_ends n (count_trailing_zeros 128 n) more (bit_at-trailing_zeros w128 n some fits).1 lt e

-- where the zeros are fewer than the room
pub zeros_fit : (at last room : ℕ) → at ≤ last → last < 2 ^ 128 → room ≤ 128 → 2 ^ room ≤ last - at + 1 → count_trailing_zeros 128 at < room → IsLargestFit at last (count_trailing_zeros 128 at)
zeros_fit at last room at_in last_in few fits lt =
    let t : ℕ = count_trailing_zeros 128 at in
    let le : 2 ^ t ≤ 2 ^ room = pow-le-pow_right {n = 2} (omega arith) {i = t} {j = room} (omega arith) in
    record {
      aligned = aligned_at_zeros at (omega arith);
      room = omega arith;
      most = λ more past e. elim (cases_lt 0 at) [
        | inl some ↦ absurd (zeros_end at more some (omega arith) past e)
        | inr none ↦
            let z : at ≡ 0 = omega arith in
            let all : t ≡ 128 = ap (count_trailing_zeros 128) z ∙ trailing_of_zero 128 in
            absurd (omega arith)
      ];
    }

-- where the room is
pub room_fits : (at last room : ℕ) → at ≤ last → last < 2 ^ 128 → 2 ^ room ≤ last - at + 1 → last - at + 1 < 2 ^ (room + 1) → room ≤ count_trailing_zeros 128 at → IsLargestFit at last room
room_fits at last room at_in last_in fits most le =
    record {
      aligned = fewer_zeros at (count_trailing_zeros 128 at) room le (aligned_at_zeros at (omega arith));
      room = omega arith;
      most = λ more past e. let up : 2 ^ (room + 1) ≤ 2 ^ more = pow-le-pow_right {n = 2} (omega arith) {i = room + 1} {j = more} (omega arith) in omega arith;
    }
