-- Where rows that pass a test end, as the first row or the last shows it.
use Rattle.std.proofs.Common.{inl, inr, ◌≡◌, ◌-◌, ◌<◌, ◌==◌, Bool, true, false, List, [], ◌∷◌, length, get_or, sym, ◌∙◌, ap, arith}
use Rattle.std.specs.List.Sorted.{IsPartitionedBy, IsPartitionPoint}
use Rattle.std.proofs.lemmas.Bool.{cases_Bool, false≢true}
use Rattle.babel_trie.proofs.Lists.{get_or_same}

-- a list that is not empty has a first member
pub not_empty : {X : Type 0} (xs : List X) (b : Bool) → b ≡ (length xs == 0) → b ≡ false → 0 < length xs
not_empty [] b is other = absurd (false≢true (sym other ∙ is))
not_empty (x ∷ xs) b is other = omega arith

module _ {X : Type 0} (p : X → Bool) (xs : List X) (parted : IsPartitionedBy p xs) where
  -- the last one passes, and so do all
  pub point_after : (x : X) → 0 < length xs → x ≡ get_or xs (length xs - 1) x → p x ≡ true → IsPartitionPoint (λ y. p y ≡ true) (λ y. p y ≡ false) xs (length xs)
  point_after x some is test = (
    λ k d low k_in. parted k (length xs - 1) d (omega arith) (omega arith) (ap p (get_or_same xs (length xs - 1) d x (omega arith) ∙ sym is) ∙ test),
    λ k d low k_in. absurd (omega arith),
  )

  -- the first one does not, and so none does
  pub point_before : (x : X) → 0 < length xs → x ≡ get_or xs 0 x → p x ≡ false → IsPartitionPoint (λ y. p y ≡ true) (λ y. p y ≡ false) xs 0
  point_before x some is test = (
    λ k d low k_in. absurd (omega arith),
    λ k d low k_in. elim (cases_Bool (p (get_or xs k d))) [
      | inl passes ↦ absurd (false≢true (sym (ap p (get_or_same xs 0 d x some ∙ sym is) ∙ test) ∙ parted 0 k d low k_in passes))
      | inr fails ↦ fails
    ],
  )
