-- Each block that is taken is a largest one.
use Rattle.std.proofs.Common.{◌≡◌, inl, inr, ℕ, ◌+◌, ◌-◌, ◌%◌, ◌^◌, ◌<◌, ◌≤◌, ap, subst, arith}
use Rattle.std.proofs.lemmas.Bool.{cases_order, cases_lt}
use Rattle.std.proofs.lemmas.Nat.{pow_below}
use Rattle.std.proofs.Math.Nat.{pow-le-pow_right}
use Rattle.babel_prefix.specs.Block.{Block}
use Rattle.babel_prefix.specs.Covers.{IsBlock, parent}
use Rattle.babel_prefix.proofs.BlockLaws.{parent_wider}
use Rattle.babel_trie.specs.Cut.{block_from, IsLargestIn, IsLargestFit}
use Rattle.babel_trie.proofs.Multiples.{next_multiple, fewer_zeros, power_added}
use Rattle.babel_trie.proofs.Ranges.{size, covers_range, inside_range, range_inside, parent_is, start_covered}

-- no aligned block of the range goes from below an address past it
abbrev pub NoneCrosses : ℕ → ℕ → ℕ → Type 0
NoneCrosses from last at =
    (a k : ℕ) → from ≤ a → a < at → a % 2 ^ k ≡ 0 → a + 2 ^ k ≤ last + 1 → a + 2 ^ k ≤ at

pub none_crosses_first : (from last : ℕ) → NoneCrosses from last from
none_crosses_first from last a k low high aligned room = absurd (omega arith)

pub none_crosses_next : (from last at bits : ℕ) → IsLargestFit at last bits → NoneCrosses from last at → NoneCrosses from last (at + 2 ^ bits)
none_crosses_next from last at bits fit none a k low high aligned room =
    elim (cases_order a at) [
      | inl e ↦ elim (cases_lt bits k) [
        | inl more ↦
            let P : ℕ → Type 0 = λ n. n % 2 ^ k ≡ 0 in
            absurd (omega (arith, fit.most k more (subst P e aligned)))
        | inr fewer ↦ let le : 2 ^ k ≤ 2 ^ bits = pow-le-pow_right {n = 2} (omega arith) {i = k} {j = bits} fewer in omega arith
      ]
      | inr other ↦ elim other [
        | inl lt ↦ let before : a + 2 ^ k ≤ at = none a k low lt aligned room in omega arith
        | inr gt ↦ elim (cases_lt k bits) [
          | inl fewer ↦
              let end : (at + 2 ^ bits) % 2 ^ k ≡ 0 = power_added at k bits (omega arith) (fewer_zeros at bits k (omega arith) fit.aligned) in
              next_multiple (2 ^ k) a (at + 2 ^ bits) aligned end high
          | inr more ↦
              let past : at + 2 ^ bits ≤ a = next_multiple (2 ^ bits) at a fit.aligned (fewer_zeros a k bits more aligned) gt in
              absurd (omega arith)
        ]
      ]
    ]

-- the bits of a block that fits are at most the width
pub fit_in_width : (w at last bits : ℕ) → at + 2 ^ bits ≤ last + 1 → last < 2 ^ w → bits ≤ w
fit_in_width w at last bits room last_in =
    elim (cases_lt w bits) [
      | inl lt ↦ let more : 2 ^ w < 2 ^ bits = pow_below w bits lt in absurd (omega arith)
      | inr le ↦ le
    ]

pub fit_is_block : (w at last bits : ℕ) → at ≤ last → last < 2 ^ w → IsLargestFit at last bits → IsBlock w (block_from w at bits)
fit_is_block w at last bits at_in last_in fit =
    let le : bits ≤ w = fit_in_width w at last bits fit.room last_in in
    let P : ℕ → Type 0 = λ n. at % 2 ^ n ≡ 0 in
    let back : bits ≡ w - (w - bits) = omega arith in
    record { len_in_range = omega arith; start_in_range = omega arith; rest_is_zero = subst P back fit.aligned }

pub fit_size : (w at last bits : ℕ) → last < 2 ^ w → IsLargestFit at last bits → size w (block_from w at bits) ≡ 2 ^ bits
fit_size w at last bits last_in fit =
    let le : bits ≤ w = fit_in_width w at last bits fit.room last_in in
    ap (λ (n : ℕ). 2 ^ n) {x = w - (w - bits)} {y = bits} (omega arith)

-- the block at an address that no block crosses is a largest one
pub fit_is_largest : (w from last at bits : ℕ) → from ≤ at → at ≤ last → last < 2 ^ w → NoneCrosses from last at → IsLargestFit at last bits → IsLargestIn w from last (block_from w at bits)
fit_is_largest w from last at bits low at_in last_in none fit =
    let b : Block = block_from w at bits in
    let is : IsBlock w b = fit_is_block w at last bits at_in last_in fit in
    let n : size w b ≡ 2 ^ bits = fit_size w at last bits last_in fit in
    let room : at + 2 ^ bits ≤ last + 1 = fit.room in
    record {
      is_prefix = is;
      inside = range_inside w from last b is low (omega arith);
      largest = λ some inside.
          let le : bits ≤ w = fit_in_width w at last bits fit.room last_in in
          let p : Block = parent w b in
          let p_is : IsBlock w p = parent_is w b is in
          let range = inside_range w from last p p_is inside in
          let in_p = covers_range w p at p_is (parent_wider w b at (start_covered w b)) in
          larger from last at bits p.start (w - p.len) (omega arith) none fit range.0 p_is.rest_is_zero range.1 in_p.0 in_p.1;
    }
  where
    larger : (from last at bits start more : ℕ) → bits < more → NoneCrosses from last at → IsLargestFit at last bits → from ≤ start
        → start % 2 ^ more ≡ 0 → start + 2 ^ more ≤ last + 1 → start ≤ at → at < start + 2 ^ more → ⊥
    larger from last at bits start more lt none fit low aligned room before past =
        elim (cases_lt start at) [
          | inl below ↦ let crossed : start + 2 ^ more ≤ at = none start more low below aligned room in omega arith
          | inr above ↦
              let e : start ≡ at = omega arith in
              let P : ℕ → Type 0 = λ n. n % 2 ^ more ≡ 0 in
              let short : last + 1 < at + 2 ^ more = fit.most more lt (subst P e aligned) in
              omega arith
        ]
