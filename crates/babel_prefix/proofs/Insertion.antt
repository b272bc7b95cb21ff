-- Entries under an order: what insertion makes of them.
use Rattle.std.proofs.Common.{◌≡◌, Bool, true, false, cond, List, [], ◌∷◌, Option, Some, refl, ap, ◌∙◌}
use Rattle.std.specs.Cmp.{IsTotalOrder}
use Rattle.std.specs.declared.cmp.Ordering.{Ordering}
use Rattle.std.specs.declared.cmp.Ordering.TheVariants.{Less, Equal, Greater}
use Rattle.std.specs.Ordering.{is_eq, match_ordering, ordering_reverse}
use Rattle.std.specs.List.{AllByRecursion}
use Rattle.std.specs.List.Sorted.{IsStrictlySortedBy}
use Rattle.std.specs.Map.{keys_of, lookup}
use Rattle.std.specs.BTreeMap.{insert_entry, is_at}

is_eq-reverse : (a b : Ordering) → a ≡ ordering_reverse b → is_eq a ≡ is_eq b
is_eq-reverse a Less e = ap is_eq e
is_eq-reverse a Equal e = ap is_eq e
is_eq-reverse a Greater e = ap is_eq e

pub equal_of : (a : Ordering) → is_eq a ≡ true → a ≡ Equal
equal_of Less e = absurd cc
equal_of Equal e = refl
equal_of Greater e = absurd cc

module _ {K : Type 0} {R : K → K → Ordering} (o : IsTotalOrder R) where
  pub is_at-sym : (q k : K) → is_at (R q) k ≡ is_at (R k) q
  is_at-sym q k = is_eq-reverse (R q k) (R k q) (o.antisymm q k)

  pub below_all : (x y : K) (ks : List K) → R x y ≡ Less → AllByRecursion (λ z. R y z ≡ Less) ks → AllByRecursion (λ z. R x z ≡ Less) ks
  below_all x y [] less below = tt
  below_all x y (z ∷ ks) less below = (o.trans x y z less below.0, below_all x y ks less below.1)

module _ {K X : Type 0} {R : K → K → Ordering} (o : IsTotalOrder R) where
  pub lookup-insert : (q k : K) (v : X) (es : List (K × X)) → lookup (is_at (R q)) (insert_entry R es k v) ≡ cond (is_at (R k) q) (Some v) (lookup (is_at (R q)) es)
  lookup-insert q k v [] = rw (is_at-sym o q k) refl
  lookup-insert q k v (e ∷ es) = by (lookup-insert q k v es) (R k e.0) refl
    where
      by_same : (b : Bool) (x y : Option X) → cond b (Some v) x ≡ cond b (Some v) (cond b y x)
      by_same true x y = refl
      by_same false x y = refl

      by_apart : (a b : Bool) (x y z : Option X) → (a ≡ true → b ≡ true → ⊥) → cond a x (cond b y z) ≡ cond b y (cond a x z)
      by_apart true true x y z apart = absurd (apart refl refl)
      by_apart true false x y z apart = refl
      by_apart false true x y z apart = refl
      by_apart false false x y z apart = refl

      by : lookup (is_at (R q)) (insert_entry R es k v) ≡ cond (is_at (R k) q) (Some v) (lookup (is_at (R q)) es) → (r : Ordering) → R k e.0 ≡ r
          → lookup (is_at (R q)) (match_ordering r ((k, v) ∷ e ∷ es) ((e.0, v) ∷ es) (e ∷ insert_entry R es k v)) ≡ cond (is_at (R k) q) (Some v) (lookup (is_at (R q)) (e ∷ es))
      by again Less is = rw (is_at-sym o q k) refl
      by again Equal is =
          let same : is_at (R k) q ≡ is_at (R q) e.0 = ap is_eq (o.congr k e.0 q is) ∙ is_at-sym o e.0 q in
          rw same (by_same (is_at (R q) e.0) (lookup (is_at (R q)) es) (Some e.1))
      by again Greater is =
          ap (λ (t : Option X). cond (is_at (R q) e.0) (Some e.1) t) again
          ∙ by_apart (is_at (R q) e.0) (is_at (R k) q) (Some e.1) (Some v) (lookup (is_at (R q)) es)
          (λ at_e at_q. let one : R k e.0 ≡ Equal = o.congr k q e.0 (equal_of (R k q) at_q) ∙ equal_of (R q e.0) at_e in cc)

  pub below_insert : (x k : K) (v : X) (es : List (K × X)) → R x k ≡ Less → AllByRecursion (λ y. R x y ≡ Less) (keys_of es) → AllByRecursion (λ y. R x y ≡ Less) (keys_of (insert_entry R es k v))
  below_insert x k v [] less below = (less, tt)
  below_insert x k v (e ∷ es) less below = by (below_insert x k v es less below.1) (R k e.0)
    where
      by : AllByRecursion (λ y. R x y ≡ Less) (keys_of (insert_entry R es k v)) → (r : Ordering)
          → AllByRecursion (λ y. R x y ≡ Less) (keys_of (match_ordering r ((k, v) ∷ e ∷ es) ((e.0, v) ∷ es) (e ∷ insert_entry R es k v)))
      by again Less = (less, below)
      by again Equal = below
      by again Greater = (below.0, again)

  pub sorted-insert : (k : K) (v : X) (es : List (K × X)) → IsStrictlySortedBy R (keys_of es) → IsStrictlySortedBy R (keys_of (insert_entry R es k v))
  unfolding IsStrictlySortedBy
  sorted-insert k v [] sorted = (tt, tt)
  sorted-insert k v (e ∷ es) sorted = by (sorted-insert k v es sorted.1) (R k e.0) refl
    where
      by : IsStrictlySortedBy R (keys_of (insert_entry R es k v)) → (r : Ordering) → R k e.0 ≡ r
          → IsStrictlySortedBy R (keys_of (match_ordering r ((k, v) ∷ e ∷ es) ((e.0, v) ∷ es) (e ∷ insert_entry R es k v)))
      by again Less is = ((is, below_all o k e.0 (keys_of es) is sorted.0), sorted)
      by again Equal is = sorted
      by again Greater is =
          let less : R e.0 k ≡ Less = o.antisymm e.0 k ∙ ap ordering_reverse is in
          (below_insert e.0 k v es less sorted.0, again)
