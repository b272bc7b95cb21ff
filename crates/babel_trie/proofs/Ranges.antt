-- Blocks as ranges of addresses.
use Rattle.std.proofs.Common.{◌≡◌, inl, inr, ℕ, ◌+◌, ◌-◌, ◌*◌, ◌/◌, ◌%◌, ◌^◌, ◌<◌, ◌≤◌, refl, ◌∙◌, ap, subst, arith}
use Rattle.std.proofs.lemmas.Bool.{cases_order}
use Rattle.std.proofs.lemmas.Nat.{pow_pos, mod_below, shr_high}
use Rattle.std.proofs.Math.Nat.{div-add-mod'}
use Rattle.babel_prefix.specs.Block.{Block}
use Rattle.babel_prefix.specs.Covers.{BlockCovers, IsBlock, parent}
use Rattle.babel_prefix.proofs.BlockLaws.{IsBlock-block_at, parent_within, same_block}
use Rattle.babel_trie.specs.Cut.{IsInside, IsLargestIn}
use Rattle.babel_trie.proofs.Multiples.{next_multiple, power_added}

-- how many addresses a block has
abbrev pub size : ℕ → Block → ℕ
size w b = 2 ^ (w - b.len)

-- a block covers the addresses from its start
pub covers_range : (w : ℕ) (b : Block) (a : ℕ) → IsBlock w b → BlockCovers w b a → (b.start ≤ a) × (a < b.start + size w b)
covers_range w b a is in_b =
    let n : ℕ = size w b in
    let some : 0 < n = pow_pos (w - b.len) in
    let same : a / n * n ≡ b.start / n * n = ap (λ q. q * n) in_b in
    let none : b.start % n ≡ 0 = is.rest_is_zero in
    let rest : a % n < n = mod_below a n some in
    let whole_a = div-add-mod' a n in
    let whole_b = div-add-mod' b.start n in
    (omega arith, omega arith)

pub range_covers : (w : ℕ) (b : Block) (a : ℕ) → IsBlock w b → b.start ≤ a → a < b.start + size w b → BlockCovers w b a
range_covers w b a is low high =
    let n : ℕ = size w b in
    let none : b.start % n ≡ 0 = is.rest_is_zero in
    let whole : b.start / n * n ≡ b.start = omega (arith, div-add-mod' b.start n) in
    let parts : a ≡ b.start / n * n + (a - b.start) = omega arith in
    ap (λ x. x / n) parts ∙ shr_high (b.start / n) (w - b.len) (a - b.start) (omega arith)

pub start_covered : (w : ℕ) (b : Block) → BlockCovers w b b.start
start_covered w b = refl

-- a block ends where the addresses do, or before
pub block_ends : (w : ℕ) (b : Block) → IsBlock w b → b.start + size w b ≤ 2 ^ w
block_ends w b is =
    let none : 0 % 2 ^ (w - b.len) ≡ 0 = omega (arith, pow_pos (w - b.len)) in
    let P : ℕ → Type 0 = λ n. n % 2 ^ (w - b.len) ≡ 0 in
    let all : 2 ^ w % 2 ^ (w - b.len) ≡ 0 = subst P {x = 0 + 2 ^ w} {y = 2 ^ w} (omega arith) (power_added 0 (w - b.len) w (omega arith) none) in
    next_multiple (size w b) b.start (2 ^ w) is.rest_is_zero all is.start_in_range

-- a block is inside exactly if its first and its last address are
pub inside_range : (w from last : ℕ) (b : Block) → IsBlock w b → IsInside w from last b → (from ≤ b.start) × (b.start + size w b ≤ last + 1)
inside_range w from last b is inside =
    let some : 0 < size w b = pow_pos (w - b.len) in
    let ends = block_ends w b is in
    let top : ℕ = b.start + (size w b - 1) in
    let above = inside top (omega arith) (range_covers w b top is (omega arith) (omega arith)) in
    ((inside b.start is.start_in_range (start_covered w b)).0, omega (arith, above.1))

pub range_inside : (w from last : ℕ) (b : Block) → IsBlock w b → from ≤ b.start → b.start + size w b ≤ last + 1 → IsInside w from last b
range_inside w from last b is low high a a_in in_b =
    let range = covers_range w b a is in_b in
    (omega (arith, range.0), omega (arith, range.1))

-- the parent of a block is one
pub parent_is : (w : ℕ) (b : Block) → IsBlock w b → IsBlock w (parent w b)
parent_is w b is = let le : b.len ≤ w = is.len_in_range in IsBlock-block_at w (b.len - 1) b.start (omega arith) is.start_in_range

-- what lies in a block that is inside is inside
pub within_inside : (w from last : ℕ) (a b : Block) → ((n : ℕ) → BlockCovers w b n → BlockCovers w a n) → IsInside w from last a → IsInside w from last b
within_inside w from last a b within inside n n_in in_b = inside n n_in (within n in_b)

-- two largest blocks with a common address are one
pub largest_same : (w from last : ℕ) (a b : Block) (n : ℕ) → IsLargestIn w from last a → IsLargestIn w from last b → BlockCovers w a n → BlockCovers w b n → a ≡ b
largest_same w from last a b n p q in_a in_b =
    elim (cases_order a.len b.len) [
      | inl e ↦ same_block w a b n p.is_prefix q.is_prefix e in_a in_b
      | inr other ↦ elim other [
        | inl lt ↦ absurd (q.largest (omega arith) (within_inside w from last a (parent w b) (parent_within w a b n lt in_a in_b) p.inside))
        | inr gt ↦ absurd (p.largest (omega arith) (within_inside w from last b (parent w a) (parent_within w b a n gt in_b in_a) q.inside))
      ]
    ]
