-- The first bits of two paths.
use Rattle.std.proofs.Common.{◌≡◌, inl, inr, ℕ, suc, List, ◌+◌, ◌-◌, ◌*◌, ◌/◌, ◌%◌, ◌^◌, ◌<◌, ◌≤◌, min, max, sym, ◌∙◌, ap, subst, arith}
use Rattle.std.proofs.lemmas.Bool.{cases_lt}
use Rattle.std.proofs.lemmas.Nat.{pow_pos, pow-add, shr-shr}
use Rattle.std.proofs.Math.Nat.{div-add-mod', div-mul-le_self, mul-le-mul_right, mod-eq_of_lt, mul_assoc}
use Rattle.babel_prefix.specs.Block.{Block}
use Rattle.babel_trie.specs.Inner.{IsInner}
use Rattle.babel_trie.specs.Rows.{IsPlace}

-- of the bits of a path some are dropped, and then those that differ
pub own_bits : (path bits n least differing shared : ℕ) → least ≤ bits - n → differing + shared ≡ least → path / 2 ^ (bits - n - least) / 2 ^ differing ≡ path / 2 ^ (bits - shared - n)
own_bits path bits n least differing shared few all =
    shr-shr path (bits - n - least) differing ∙ ap (λ k. path / 2 ^ k) {x = bits - n - least + differing} {y = bits - shared - n} (omega (arith, few, all))

pub other_bits : (path bits skip least differing shared : ℕ) → least ≤ skip → least ≤ bits → differing + shared ≡ least
    → path / 2 ^ (skip - least) / 2 ^ differing ≡ path / 2 ^ (skip - (bits - (bits - shared)))
other_bits path bits skip least differing shared few in_bits all =
    shr-shr path (skip - least) differing ∙ ap (λ k. path / 2 ^ k) {x = skip - least + differing} {y = skip - (bits - (bits - shared))} (omega (arith, few, in_bits, all))

-- the lower and the higher of two numbers, shifted
pub shifted_same : (a b q : ℕ) → min a b / q ≡ max a b / q → a / q ≡ b / q
shifted_same a b q e = elim (cases_lt a b) [
  | inl lt ↦
      let low : min a b ≡ a = omega arith in
      let high : max a b ≡ b = omega arith in
      ap (λ n. n / q) (sym low) ∙ e ∙ ap (λ n. n / q) high
  | inr ge ↦
      let low : min a b ≡ b = omega arith in
      let high : max a b ≡ a = omega arith in
      ap (λ n. n / q) (sym high) ∙ sym e ∙ ap (λ n. n / q) low
]

module _ (n m path : ℕ) (le : n ≤ m) where
  -- a block around another starts no later, and the other is inside
  power : 2 ^ m ≡ 2 ^ (m - n) * 2 ^ n
  power = ap (λ (k : ℕ). 2 ^ k) {x = m} {y = (m - n) + n} (omega (arith, le)) ∙ pow-add 2 (m - n) n

  moved : path / 2 ^ (m - n) * 2 ^ m ≡ path / 2 ^ (m - n) * 2 ^ (m - n) * 2 ^ n
  moved = ap (λ k. path / 2 ^ (m - n) * k) power ∙ sym (mul_assoc (path / 2 ^ (m - n)) (2 ^ (m - n)) (2 ^ n))

  pub starts_before : path / 2 ^ (m - n) * 2 ^ m ≤ path * 2 ^ n
  starts_before =
      let le : path / 2 ^ (m - n) * 2 ^ (m - n) * 2 ^ n ≤ path * 2 ^ n = mul-le-mul_right (2 ^ n) (div-mul-le_self path (2 ^ (m - n))) in
      omega (arith, le, moved)

  pub ends_behind : path * 2 ^ n + 2 ^ n ≤ path / 2 ^ (m - n) * 2 ^ m + 2 ^ m
  ends_behind =
      let q : ℕ = path / 2 ^ (m - n) in
      let next : suc path ≤ q * 2 ^ (m - n) + 2 ^ (m - n) = omega (arith, div-add-mod' path (2 ^ (m - n)), pow_pos (m - n)) in
      let most : suc path * 2 ^ n ≤ (q * 2 ^ (m - n) + 2 ^ (m - n)) * 2 ^ n = mul-le-mul_right (2 ^ n) next in
      omega (arith, most, moved, power)

-- a block that a path leads to ends where the block around it does, or before
pub within : (n bits path : ℕ) → n ≤ bits → path < 2 ^ (bits - n) → path * 2 ^ n + 2 ^ n ≤ 2 ^ bits
within n bits path le path_in =
    let most : suc path * 2 ^ n ≤ 2 ^ (bits - n) * 2 ^ n = mul-le-mul_right (2 ^ n) (omega (arith, path_in)) in
    omega (arith, most, power n bits path le)

module _ (n bits m path p : ℕ) (le : n ≤ m) (smaller : m < bits) (path_in : path < 2 ^ (bits - n)) (p_is : p ≡ path / 2 ^ (m - n)) where
  first : p * 2 ^ m ≤ path * 2 ^ n
  first = subst (λ k. k * 2 ^ m ≤ path * 2 ^ n) (sym p_is) (starts_before n m path le)

  last : path * 2 ^ n + 2 ^ n ≤ p * 2 ^ m + 2 ^ m
  last = subst (λ k. path * 2 ^ n + 2 ^ n ≤ k * 2 ^ m + 2 ^ m) (sym p_is) (ends_behind n m path le)

  first_in : p * 2 ^ m < 2 ^ bits
  first_in = omega (arith, first, within n bits path (omega (arith, le, smaller)) path_in, pow_pos n)

  shorter_in : p < 2 ^ (bits - m)
  shorter_in = elim (cases_lt p (2 ^ (bits - m))) [
    | inl lt ↦ lt
    | inr ge ↦
        let most : 2 ^ (bits - m) * 2 ^ m ≤ p * 2 ^ m = mul-le-mul_right (2 ^ m) ge in
        absurd (omega (arith, most, power m bits p (omega (arith, smaller)), first_in))
  ]

  -- no bit of the shorter path is shifted out, and the sum is an address
  pub shared_start : (start : ℕ) → start + 2 ^ bits ≤ 2 ^ 128 → (p * 2 ^ m % 2 ^ 128 ≡ p * 2 ^ m) × (start + p * 2 ^ m < 2 ^ 128)
  shared_start start room = (mod-eq_of_lt (omega (arith, first_in, room)), omega (arith, first_in, room))

  -- the block around is one of the blocks of its size
  around_place : (w start : ℕ) → IsPlace w bits start → IsPlace w m (start + p * 2 ^ m)
  around_place w start place =
      let whole : place.index * 2 ^ bits ≡ place.index * 2 ^ (bits - m) * 2 ^ m = ap (λ k. place.index * k) (power m bits p (omega (arith, smaller)))
      ∙ sym (mul_assoc place.index (2 ^ (bits - m)) (2 ^ m)) in
      record {
        bits_in = omega (arith, place.bits_in, smaller);
        index = place.index * 2 ^ (bits - m) + p;
        start_is = omega (arith, place.start_is, whole);
        room = omega (arith, place.room, within m bits p (omega (arith, smaller)) shorter_in);
      }

  -- all rows of a block lie in a block around the one that they lie in
  pub around_inner : {X : Type 0} (key : X → Block) (w start s t : ℕ) (rows : List X) → IsPlace w bits start → IsInner key w bits start rows n s path
      → t ≡ start + p * 2 ^ m → IsInner key w bits start rows m t p
  around_inner key w start s t rows place inner t_is = record {
    smaller = smaller;
    path_in = shorter_in;
    start_is = t_is;
    place = subst (IsPlace w m) (sym t_is) (around_place w start place);
    rows_in = record {
      prefixes = inner.rows_in.prefixes;
      from_start = λ x u. omega (arith, inner.rows_in.from_start x u, inner.start_is, t_is, first);
      before_end = λ x u. omega (arith, inner.rows_in.before_end x u, inner.start_is, t_is, last);
      no_shorter = λ x u. omega (arith, inner.rows_in.no_shorter x u, le);
      in_order = inner.rows_in.in_order;
    };
  }
