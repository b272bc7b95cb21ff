-- What a list of changes says at an address, by the place in the list at which they go past it.
use Rattle.std.proofs.Common.{◌≡◌, inl, inr, ℕ, zero, suc, ◌-◌, ◌<◌, ◌≤◌, cond, nat_le, true, false, List, [], ◌∷◌, length, get_or, sym, ◌∙◌, ap, subst, arith}
use Rattle.std.specs.List.Sorted.{IsPartitionPoint, IsNonDecreasingBy}
use Rattle.std.proofs.lemmas.Bool.{cases_lt, leb-true, leb-false}
use Rattle.babel_prefix.proofs.Members.{Contains-from_Listed, Listed-get_or}
use Rattle.babel_trie.specs.Runs.{said_at, AreRuns}
use Rattle.babel_trie.specs.Spans.{start_or}
use Rattle.babel_trie.specs.declared.runs.Change.{Change}
use Rattle.babel_trie.proofs.ApartLaws.{said-before, runs-rest, runs-above}
use Rattle.babel_trie.proofs.RunLaws.{reached}

module _ {F : Type 0} where
  -- the change before that place counts
  said-point : (list : List (Change F)) (n d : ℕ) (none : F) (other : Change F) → ((k : ℕ) (e : Change F) → k < n → k < length list → (get_or list k e).start ≤ d) →
      ((k : ℕ) (e : Change F) → n ≤ k → k < length list → d < (get_or list k e).start) → 0 < n → n ≤ length list → (get_or list (n - 1) other).sources ≡ said_at none list d
  said-point [] n d none other up beyond some le = absurd (omega arith)
  said-point (x ∷ xs) zero d none other up beyond some le = absurd (omega arith)
  said-point (x ∷ xs) (suc zero) d none other up beyond some le =
      let first : suc zero - 1 ≡ 0 = omega arith in
      ap (λ k. (get_or (x ∷ xs) k other).sources) first
      ∙ sym (ap (λ b. said_at (cond b x.sources none) xs d) (reached x d (up 0 x (omega arith) (omega arith)))
      ∙ said-before x.sources xs d (λ y t. let c = Contains-from_Listed xs y t in subst (λ (z : Change F). d < z.start) c.2 (beyond (suc c.0) y (omega arith) (omega (arith, c.1)))))
  said-point (x ∷ xs) (suc (suc m)) d none other up beyond some le =
      let next : suc (suc m) - 1 ≡ suc (suc m - 1) = omega arith in
      ap (λ k. (get_or (x ∷ xs) k other).sources) next
      ∙ said-point xs (suc m) d (cond (nat_le x.start d) x.sources none) other (λ k e low k_in. up (suc k) e (omega arith) (omega arith))
      (λ k e low k_in. beyond (suc k) e (omega arith) (omega arith)) (omega arith) (omega arith)

  -- starts rise
  pub starts_rise : (list : List (Change F)) → AreRuns list → IsNonDecreasingBy (λ (x : Change F). x.start) list
  starts_rise [] runs i j d le j_in = absurd (omega arith)
  starts_rise (x ∷ xs) runs zero zero d le j_in = omega arith
  starts_rise (x ∷ xs) runs zero (suc j) d le j_in = omega (arith, runs-above x xs runs (get_or xs j d) (Listed-get_or xs j d (omega arith)))
  starts_rise (x ∷ xs) runs (suc i) zero d le j_in = absurd (omega arith)
  starts_rise (x ∷ xs) runs (suc i) (suc j) d le j_in = starts_rise xs (runs-rest x xs runs) i j d (omega arith) (omega arith)

  module _ (list : List (Change F)) (n d : ℕ) (other : Change F) (from_zero : start_or 1 list ≡ 0)
      (point : IsPartitionPoint (λ (x : Change F). nat_le x.start d ≡ true) (λ (x : Change F). nat_le x.start d ≡ false) list n) where
    -- the first change is not past the address
    pub point_some : 0 < n
    point_some = by list from_zero (λ low k_in. leb-false _ d (point.1 0 other low k_in))
      where
        by : (xs : List (Change F)) → start_or 1 xs ≡ 0 → (n ≤ 0 → 0 < length xs → d < (get_or xs 0 other).start) → 0 < n
        by [] first beyond = absurd (omega (arith, first))
        by (x ∷ xs) first beyond =
            elim (cases_lt 0 n) [
              | inl some ↦ some
              | inr none ↦ let past : d < x.start = beyond none (omega arith) in let zero_first : x.start ≡ 0 = first in absurd (omega arith)
            ]

    pub said_point : (none : F) → n ≤ length list → (get_or list (n - 1) other).sources ≡ said_at none list d
    said_point none le = said-point list n d none other (λ k e low k_in. leb-true _ d (point.0 k e (omega arith) low)) (λ k e low k_in. leb-false _ d (point.1 k e low k_in)) point_some le
