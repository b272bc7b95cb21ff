-- What binary searches find among rows whose keys rise.
use Rattle.std.proofs.Common.{◌≡◌, inl, inr, ℕ, ◌+◌, ◌<◌, List, get_or, false, refl, ap, subst, arith}
use Rattle.std.specs.Cmp.{IsTotalOrder}
use Rattle.std.specs.List.{Contains}
use Rattle.std.specs.List.Sorted.{IsNonDecreasingBy, IsPartitionPoint}
use Rattle.std.specs.Ordering.{is_lt, ordering_index, ordering_reverse}
use Rattle.std.specs.declared.cmp.Ordering.{Ordering}
use Rattle.std.specs.declared.cmp.Ordering.TheVariants.{Less, Equal, Greater}
use Rattle.std.proofs.lemmas.Bool.{cases_lt}
use Rattle.std.proofs.lemmas.List.Sorted.{searchable_from_sorted}
use Rattle.babel_tlv.specs.Keys.{key_cmp}
use Rattle.babel_tlv.specs.Route.{RouteKey}
use Rattle.babel_table.specs.Rows.{IsRising}
use Rattle.babel_table.proofs.EntryLaws.{rising_rows}

not_less-reverse : (a b : Ordering) → a ≡ ordering_reverse b → (b ≡ Greater → ⊥) → is_lt a ≡ false
not_less-reverse a Less e h = ap is_lt e
not_less-reverse a Equal e h = ap is_lt e
not_less-reverse a Greater e h = absurd (h refl)

pub less_not_greater : (a : Ordering) → a ≡ Less → a ≡ Greater → ⊥
less_not_greater a e g = cc

-- a search that ends between the lesser and the greater passes no equal one
pub missed : {X : Type 0} (ord : X → Ordering) (xs : List X) (i : ℕ) → IsPartitionPoint (λ y. ord y ≡ Less) (λ y. ord y ≡ Greater) xs i →
    (x : X) → Contains xs x → ord x ≡ Equal → ⊥
missed ord xs i point x (k, k_in, at) e =
    elim (cases_lt k i) [
      | inl lt ↦ let less : ord x ≡ Less = subst (λ y. ord y ≡ Less) at (point.0 k x (omega arith) lt) in cc
      | inr ge ↦ let greater : ord x ≡ Greater = subst (λ y. ord y ≡ Greater) at (point.1 k x ge k_in) in cc
    ]

-- rows can be searched by a part of their keys whose order the keys follow
pub searchable : {K V : Type 0} {R : K → K → Ordering} → IsTotalOrder R → (part : RouteKey → K) → ((k l : RouteKey) → key_cmp k l ≡ Less → R (part k) (part l) ≡ Greater → ⊥) →
    (rows : List (RouteKey × V)) (x : K) → IsRising rows → IsNonDecreasingBy (λ row. ordering_index (R (part row.0) x)) rows
searchable {K} {V} {R} total part follows rows x rising =
    searchable_from_sorted total (λ (row : RouteKey × V). part row.0) rows x (λ k d low k_in.
    let k_below : k < k + 1 = omega arith in
    let less = rising_rows rows k (k + 1) d rising k_below k_in in
    not_less-reverse _ _ (total.antisymm (part (get_or rows (k + 1) d).0) (part (get_or rows k d).0)) (follows _ _ less))
