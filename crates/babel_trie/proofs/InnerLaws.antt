-- The smallest block that rows in order lie in.
use Rattle.std.proofs.Common.{◌≡◌, inl, inr, ℕ, suc, ◌+◌, ◌-◌, ◌*◌, ◌/◌, ◌%◌, ◌^◌, ◌<◌, ◌≤◌, List, [], ◌∷◌, length, Some, refl, sym, ◌∙◌, ap, subst, arith}
use Rattle.std.specs.List.{slice_get}
use Rattle.std.proofs.lemmas.Bool.{cases_lt}
use Rattle.std.proofs.lemmas.Nat.{pow_pos, pow-add, shr-shr}
use Rattle.std.proofs.Math.Nat.{div-add-mod', div-mul-le_self, mul-mod_left, mul-le-mul_right, mod-eq_of_lt}
use Rattle.babel_prefix.specs.Block.{Block}
use Rattle.babel_prefix.proofs.Members.{Listed}
use Rattle.babel_trie.specs.Cut.{IsSplit}
use Rattle.babel_trie.specs.Rows.{InOrder, IsNoLater, IsPlace, InBlock}
use Rattle.babel_trie.proofs.Multiples.{next_multiple, fewer_zeros, power_added}

-- the number without its last bits
abbrev pub start_of : ℕ → ℕ → ℕ
start_of a n = a / 2 ^ n * 2 ^ n

start_le : (a n : ℕ) → start_of a n ≤ a
start_le a n = div-mul-le_self a (2 ^ n)

start_multiple : (a n : ℕ) → start_of a n % 2 ^ n ≡ 0
start_multiple a n = mul-mod_left (a / 2 ^ n) (2 ^ n)

below_next : (a n : ℕ) → a < start_of a n + 2 ^ n
below_next a n = omega (arith, div-add-mod' a (2 ^ n), mod_below a n)
  where
    mod_below : (a n : ℕ) → a % 2 ^ n < 2 ^ n
    mod_below a n = omega (arith, pow_pos n)

-- behind the highest bit that differs the two are the same
pub same_behind : (from last bit : ℕ) → IsSplit from last bit → from / 2 ^ (bit + 1) ≡ last / 2 ^ (bit + 1)
same_behind from last bit p = sym (shr-shr from bit 1) ∙ half (from / 2 ^ bit) (last / 2 ^ (bit + 1)) p.low
  where
    half : (x q : ℕ) → x ≡ 2 * q → x / 2 ^ 1 ≡ q
    half x q e = omega (arith, e)

-- and so they are in fewer bits
pub same_above : (from last d n : ℕ) → d ≤ n → from / 2 ^ d ≡ last / 2 ^ d → from / 2 ^ n ≡ last / 2 ^ n
same_above from last d n le e =
    let parts : d + (n - d) ≡ n = omega arith in
    let P : ℕ → Type 0 = λ k. from / 2 ^ k ≡ last / 2 ^ k in
    subst P parts (sym (shr-shr from d (n - d)) ∙ ap (λ k. k / 2 ^ (n - d)) e ∙ shr-shr last d (n - d))

-- the block of an address
pub place_of : (w n from : ℕ) → n ≤ w → from < 2 ^ w → IsPlace w n (start_of from n)
place_of w n from le from_in =
    let low = start_le from n in
    let all : (0 + 2 ^ w) % 2 ^ n ≡ 0 = power_added 0 n w le (omega (arith, pow_pos n)) in
    record {
      bits_in = le;
      index = from / 2 ^ n;
      start_is = refl;
      room = next_multiple (2 ^ n) (start_of from n) (2 ^ w) (start_multiple from n) (ap (λ k. k % 2 ^ n) {x = 2 ^ w} {y = 0 + 2 ^ w} (omega arith) ∙ all) (omega arith);
    }

module _ (w bits start n from : ℕ) (p : IsPlace w bits start) (le : n ≤ bits) (low : start ≤ from) (high : from < start + 2 ^ bits) where
  size : 2 ^ bits ≡ 2 ^ (bits - n) * 2 ^ n
  size = ap (λ (k : ℕ). 2 ^ k) {x = bits} {y = (bits - n) + n} (omega arith) ∙ pow-add 2 (bits - n) n

  outer_start : start_of start n ≡ start
  outer_start =
      let zeros : start % 2 ^ bits ≡ 0 = ap (λ k. k % 2 ^ bits) p.start_is ∙ mul-mod_left p.index (2 ^ bits) in
      let none = fewer_zeros start bits n le zeros in
      omega (arith, div-add-mod' start (2 ^ n), none)

  above : start / 2 ^ n ≤ from / 2 ^ n
  above = elim (cases_lt (from / 2 ^ n) (start / 2 ^ n)) [
    | inl lt ↦
        let most : suc (from / 2 ^ n) * 2 ^ n ≤ start / 2 ^ n * 2 ^ n = mul-le-mul_right (2 ^ n) (omega arith) in
        absurd (omega (arith, most, outer_start, below_next from n))
    | inr ge ↦ ge
  ]

  -- the bits that lead to it
  pub path_start : start_of from n ≡ start + (from / 2 ^ n - start / 2 ^ n) * 2 ^ n
  path_start =
      let k : ℕ = from / 2 ^ n - start / 2 ^ n in
      let parts : from / 2 ^ n ≡ start / 2 ^ n + k = omega (arith, above) in
      ap (λ j. j * 2 ^ n) parts ∙ omega (arith, outer_start)

  pub path_few : from / 2 ^ n - start / 2 ^ n < 2 ^ (bits - n)
  path_few = elim (cases_lt (from / 2 ^ n - start / 2 ^ n) (2 ^ (bits - n))) [
    | inl lt ↦ lt
    | inr ge ↦
        let most : 2 ^ (bits - n) * 2 ^ n ≤ (from / 2 ^ n - start / 2 ^ n) * 2 ^ n = mul-le-mul_right (2 ^ n) ge in
        absurd (omega (arith, most, size, path_start, start_le from n))
  ]

module _ {X : Type 0} (key : X → Block) where
  -- the first of rows in order
  pub from_first : (rows : List X) (f x : X) → slice_get rows 0 ≡ Some f → InOrder (λ a b. IsNoLater (key a) (key b)) rows → Listed rows x → IsNoLater (key f) (key x)
  from_first [] f x e o none = elim none [ ]
  from_first (y ∷ ys) f x e o (inl is) = let same : y ≡ f = cc in inr (ap (λ (z : X). (key z).start) (sym same ∙ is), omega (arith, ap (λ (z : X). (key z).len) (sym same ∙ is)))
  from_first (y ∷ ys) f x e o (inr t) = let same : y ≡ f = cc in subst (λ (z : X). IsNoLater (key z) (key x)) same (o.0 x t)

  -- the last of them
  pub to_last : (rows : List X) (k : ℕ) (l x : X) → k + 1 ≡ length rows → slice_get rows k ≡ Some l → InOrder (λ a b. IsNoLater (key a) (key b)) rows → Listed rows x → (key x).start ≤ (key l).start
  to_last [] k l x k_is e o none = elim none [ ]
  to_last (y ∷ []) k l x k_is e o (inl is) =
      let z : k ≡ 0 = omega arith in
      let at : slice_get (y ∷ []) 0 ≡ Some l = ap (slice_get (y ∷ [])) (sym z) ∙ e in
      let same : y ≡ l = cc in
      omega (arith, ap (λ (z : X). (key z).start) (sym is ∙ same))
  to_last (y ∷ []) k l x k_is e o (inr none) = elim none [ ]
  to_last (y ∷ z ∷ zs) k l x k_is e o t =
      let j : ℕ = k - 1 in
      let next : k ≡ suc j = omega arith in
      let at : slice_get (z ∷ zs) j ≡ Some l = ap (slice_get (y ∷ z ∷ zs)) (sym next) ∙ e in
      let rest : (q : X) → Listed (z ∷ zs) q → (key q).start ≤ (key l).start = λ q u. to_last (z ∷ zs) j l q (omega arith) at o.1 u in
      elim t [
        | inl is ↦
            let first : (key z).start ≤ (key l).start = rest z (inl refl) in
            let before : IsNoLater (key y) (key z) = o.0 z (inl refl) in
            let below : (key y).start ≤ (key z).start = elim before [ inl lt ↦ omega arith | inr same ↦ omega (arith, same.0) ] in
            omega (arith, ap (λ (q : X). (key q).start) is)
        | inr u ↦ rest x u
      ]

  -- rows in order lie in each block that the first does, with its prefix, and the last
  pub inner_rows : (w bits start n : ℕ) (rows : List X) (f l : X) (k : ℕ) → InBlock key w bits start rows → slice_get rows 0 ≡ Some f → k + 1 ≡ length rows → slice_get rows k ≡ Some l →
      w - (key f).len ≤ n → n ≤ w → (key f).start / 2 ^ n ≡ (key l).start / 2 ^ n → InBlock key w n (start_of (key f).start n) rows
  inner_rows w bits start n rows f l k b first k_is last len_in n_in same = record {
    prefixes = b.prefixes;
    from_start = λ x t. omega (arith, low x t, start_le (key f).start n);
    before_end = λ x t. high x t;
    no_shorter = λ x t. elim (from_first rows f x first b.in_order t) [
      | inl lt ↦ elim (cases_lt (key x).len (w - n)) [
        | inl shorter ↦
            let zeros = fewer_zeros (key x).start (w - (key x).len) n (omega arith) (b.prefixes x t).rest_is_zero in
            let next = next_multiple (2 ^ n) (start_of (key f).start n) (key x).start (start_multiple (key f).start n) zeros (omega (arith, start_le (key f).start n)) in
            absurd (omega (arith, next, high x t))
        | inr ge ↦ ge
      ]
      | inr both ↦ omega (arith, both.1)
    ];
    in_order = b.in_order;
  }
    where
      low : (x : X) → Listed rows x → (key f).start ≤ (key x).start
      low x t = elim (from_first rows f x first b.in_order t) [ inl lt ↦ omega arith | inr both ↦ omega (arith, both.0) ]

      high : (x : X) → Listed rows x → (key x).start < start_of (key f).start n + 2 ^ n
      high x t = omega (arith, to_last rows k l x k_is last b.in_order t, below_next (key l).start n, ap (λ q. q * 2 ^ n) same)

-- no bit is shifted out
pub start_fits : (a n : ℕ) → a < 2 ^ 128 → start_of a n % 2 ^ 128 ≡ start_of a n
start_fits a n a_in = mod-eq_of_lt (omega (arith, start_le a n))

-- a list with a member is not empty
pub some_listed : {X : Type 0} (xs : List X) (x : X) → Listed xs x → 0 < length xs
some_listed [] x none = elim none [ ]
some_listed (y ∷ ys) x t = omega arith
