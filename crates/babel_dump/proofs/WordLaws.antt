-- Words of digits, and where they are cut.
use Rattle.std.proofs.Common.{Bor, ◌≡◌, ℕ, zero, suc, ◌+◌, ◌-◌, ◌*◌, ◌^◌, ◌<◌, ◌≤◌, ◌⊎◌, inl, inr, List, [], ◌∷◌, ◌++◌, Option, Some, None, length, get_or, sym, ap, subst, ◌∙◌, arith, lit<}
use Rattle.std.specs.Prelude.{◌≢◌, MatchOption, SomeIff}
use Rattle.std.specs.Int.{IsInRange}
use Rattle.std.specs.List.{AllByRecursion}
use Rattle.std.specs.Str.Parse.{AllDigits}
use Rattle.std.proofs.lemmas.List.{append-nil}
use Rattle.std.proofs.lemmas.Nat.{pow-add}
use Rattle.std.proofs.lemmas.Str.Parse.{digit_from_value, digits_value_short, numerals_by_value, tells_digits}
use Rattle.std.proofs.lemmas.Str.Pattern.{IsSplitOnceResult, split_after, split_parts}
use Rattle.std.proofs.Math.Nat.{mul-lt-mul_of_pos_right, pow-le-pow_right}
use Rattle.babel_dump.specs.Decimals.{AreDigits, number}

pub made : {T : Type 0} (r : Option T) (P : Type 0) (x : T) → SomeIff r P x → P → r ≡ Some x
made None P x is p = absurd (is p)
made (Some y) P x is p = ap (λ (z : _). Some z) is.1

-- ---- digits

-- they write a number below ten to the power of their count
pub digits_small : (digits : List ℕ) (most : ℕ) → AllDigits 10 digits → length digits ≤ most → number digits < 10 ^ most
digits_small digits most are few = digits_value_short (numerals_by_value (AllDigits 10) tells_digits) digits most are few

pub padded_small : (count : ℕ) (text : List ℕ) → count ≤ 4 → AreDigits count text → number text < 10 ^ 4
padded_small count text few are = digits_small text 4 are.1 (omega (arith, are.0))

-- ten to the power of what is left of the places
pub places_fit : (most count n : ℕ) → most ≤ 9 → count ≤ most → n < 10 ^ count → n * 10 ^ (most - count) < 10 ^ 9
places_fit most count n few within small =
    let one : 10 ^ 0 ≤ 10 ^ (most - count) = pow-le-pow_right (lit< tt) {i = 0} (omega arith) in
    let some : 0 < 10 ^ (most - count) = omega arith in
    let less : n * 10 ^ (most - count) < 10 ^ count * 10 ^ (most - count) = mul-lt-mul_of_pos_right small some in
    let joined : 10 ^ (count + (most - count)) ≡ 10 ^ count * 10 ^ (most - count) = pow-add 10 count (most - count) in
    let all : count + (most - count) ≡ most = omega arith in
    let below : 10 ^ most ≤ 10 ^ 9 = pow-le-pow_right (lit< tt) few in
    omega (arith, ap (λ (k : ℕ). 10 ^ k) all)

-- ---- octets of a range

abbrev pub AreIn : ℕ → ℕ → List ℕ → Type 0
AreIn low high text = AllByRecursion (IsInRange low high) text

pub widened : (low high : ℕ) (text : List ℕ) → low ≤ 46 → 58 ≤ high → AreIn 46 58 text → AreIn low high text
widened low high [] down up are = tt
widened low high (b ∷ text) down up are = ((omega (arith, are.0.0), omega (arith, are.0.1)), widened low high text down up are.1)

module _ (low high : ℕ) where
  pub digits_in : (text : List ℕ) → low ≤ 48 → 57 ≤ high → AllDigits 10 text → AreIn low high text
  digits_in [] down up are = tt
  digits_in (b ∷ text) down up are = let digit = digit_from_value b are.0 in ((omega arith, omega arith), digits_in text down up are.1)

  pub append_in : (front back : List ℕ) → AreIn low high front → AreIn low high back → AreIn low high (front ++ back)
  append_in [] back are also = also
  append_in (b ∷ front) back are also = (are.0, append_in front back are.1 also)

  module _ (c : ℕ) (out : ¬ IsInRange low high c) where
    lacks : (text : List ℕ) → AreIn low high text → (i : ℕ) → i < length text → get_or text i 0 ≢ c
    lacks [] are i within = absurd (omega arith)
    lacks (b ∷ text) are zero within = λ e. out (subst (IsInRange low high) e are.0)
    lacks (b ∷ text) are (suc i) within = lacks text are.1 i (omega arith)

    pub not_in : (front back : List ℕ) → ¬ AreIn low high (front ++ c ∷ back)
    not_in [] back are = out are.0
    not_in (b ∷ front) back are = not_in front back are.1

    -- ---- a cut at this octet

    module _ (small : c < 128) (text front : List ℕ) (are : AreIn low high front) where
      pub cut : (back : List ℕ) (r : Option (Bor (List ℕ) × Bor (List ℕ))) → IsSplitOnceResult c text r → text ≡ front ++ c ∷ back
          → MatchOption r ⊥ (λ x. (x.0.now ≡ front) × (x.1.now ≡ back))
      cut back r is e = split_after c text front back r is small e (lacks front are)

-- ---- a cut after digits, at what is none

module _ (c : ℕ) (out : ¬ IsInRange 48 57 c) (small : c < 128) (text digits : List ℕ) (are : AllDigits 10 digits) where
  front : AreIn 48 57 digits
  front = digits_in 48 57 digits (omega arith) (omega arith) are

  pub cut_digits : (back : List ℕ) → text ≡ digits ++ c ∷ back → (r : Option (Bor (List ℕ) × Bor (List ℕ))) → IsSplitOnceResult c text r
      → MatchOption r ⊥ (λ x. (x.0.now ≡ digits) × (x.1.now ≡ back))
  cut_digits back e r is = cut 48 57 c out small text digits front back r is e

  -- what comes after them is nothing, or begins with it
  module _ (other : List ℕ) (e : text ≡ digits ++ other) (begins : (other ≡ []) ⊎ ((back : List ℕ) × (other ≡ c ∷ back))) where
    pub cut_some : (x : Bor (List ℕ) × Bor (List ℕ)) → IsSplitOnceResult c text (Some x) → (x.0.now ≡ digits) × (other ≡ c ∷ x.1.now)
    cut_some x is = by begins
      where
        by : (other ≡ []) ⊎ ((back : List ℕ) × (other ≡ c ∷ back)) → (x.0.now ≡ digits) × (other ≡ c ∷ x.1.now)
        by (inl none) =
            let split = split_parts c text (Some x) is small in
            let same : digits ≡ x.0.now ++ c ∷ x.1.now = sym (append-nil digits) ∙ ap (λ (o : List ℕ). digits ++ o) (sym none) ∙ sym e ∙ split.0 in
            absurd (not_in 48 57 c out x.0.now x.1.now (subst (AreIn 48 57) same front))
        by (inr some) =
            let split = cut_digits some.0 (e ∙ ap (λ (o : List ℕ). digits ++ o) some.1) (Some x) is in
            (split.0, some.1 ∙ ap (λ (t : List ℕ). c ∷ t) (sym split.1))

    pub cut_none : IsSplitOnceResult c text None → (text ≡ digits) × (other ≡ [])
    cut_none is = by begins
      where
        by : (other ≡ []) ⊎ ((back : List ℕ) × (other ≡ c ∷ back)) → (text ≡ digits) × (other ≡ [])
        by (inl none) = (e ∙ ap (λ (o : List ℕ). digits ++ o) none ∙ append-nil digits, none)
        by (inr some) = absurd (cut_digits some.0 (e ∙ ap (λ (o : List ℕ). digits ++ o) some.1) None is)
