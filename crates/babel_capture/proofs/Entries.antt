-- Entries under an order: another value for a key that is there.
use Rattle.std.proofs.Common.{◌≡◌, ◌≤◌, ◌+◌, length, arith, cond, List, [], ◌∷◌, Some, None, refl, sym, ap, ◌∙◌}
use Rattle.std.specs.Cmp.{IsTotalOrder}
use Rattle.std.specs.declared.cmp.Ordering.{Ordering}
use Rattle.std.specs.declared.cmp.Ordering.TheVariants.{Less, Equal, Greater}
use Rattle.std.specs.Ordering.{is_eq, match_ordering}
use Rattle.std.specs.List.Sorted.{IsStrictlySortedBy}
use Rattle.std.specs.Map.{keys_of, lookup, set_value}
use Rattle.std.proofs.lemmas.Map.{lookup-none}
use Rattle.std.proofs.lemmas.Map.Entries.{none_below_head}
use Rattle.std.specs.BTreeMap.{insert_entry, is_at}

module _ {K X : Type 0} {R : K → K → Ordering} (o : IsTotalOrder R) where
  pub set_value-insert : (k : K) (w v : X) (es : List (K × X)) → IsStrictlySortedBy R (keys_of es) → lookup (is_at (R k)) es ≡ Some v → set_value (is_at (R k)) es w ≡ insert_entry R es k w
  unfolding IsStrictlySortedBy
  set_value-insert k w v [] sorted found = absurd cc
  set_value-insert k w v (e ∷ es) sorted found = by (set_value-insert k w v es sorted.1) (R k e.0) refl found
    where
      by : (lookup (is_at (R k)) es ≡ Some v → set_value (is_at (R k)) es w ≡ insert_entry R es k w) → (r : Ordering) → R k e.0 ≡ r → cond (is_eq r) (Some e.1) (lookup (is_at (R k)) es) ≡ Some v
          → cond (is_eq r) ((e.0, w) ∷ es) (e ∷ set_value (is_at (R k)) es w) ≡ match_ordering r ((k, w) ∷ e ∷ es) ((e.0, w) ∷ es) (e ∷ insert_entry R es k w)
      by again Less is f =
          let none : lookup (is_at (R k)) (e ∷ es) ≡ None = lookup-none (is_at (R k)) (e ∷ es) (none_below_head o k e es sorted is) in
          let none_later : lookup (is_at (R k)) es ≡ None = ap (λ (r : Ordering). cond (is_eq r) (Some e.1) (lookup (is_at (R k)) es)) (sym is) ∙ none in
          let wrong : None ≡ Some v = sym none_later ∙ f in
          absurd cc
      by again Equal is f = refl
      by again Greater is f = ap (λ (l : List (K × X)). e ∷ l) (again f)

-- ---- how many entries there are with one more

module _ {K X : Type 0} (R : K → K → Ordering) where
  pub insert-longer : (k : K) (v : X) (es : List (K × X)) → length es ≤ length (insert_entry R es k v)
  insert-longer k v [] = omega arith
  insert-longer k v (e ∷ es) = by (R k e.0) (insert-longer k v es)
    where
      by : (r : Ordering) → length es ≤ length (insert_entry R es k v) → length (e ∷ es) ≤ length (match_ordering r ((k, v) ∷ e ∷ es) ((e.0, v) ∷ es) (e ∷ insert_entry R es k v))
      by Less again = omega arith
      by Equal again = omega arith
      by Greater again = omega arith

  pub insert-new : (k : K) (v : X) (es : List (K × X)) → lookup (is_at (R k)) es ≡ None → length (insert_entry R es k v) ≡ length es + 1
  insert-new k v [] none = refl
  insert-new k v (e ∷ es) none = by (R k e.0) none (insert-new k v es)
    where
      by : (r : Ordering) → cond (is_eq r) (Some e.1) (lookup (is_at (R k)) es) ≡ None → (lookup (is_at (R k)) es ≡ None → length (insert_entry R es k v) ≡ length es + 1)
          → length (match_ordering r ((k, v) ∷ e ∷ es) ((e.0, v) ∷ es) (e ∷ insert_entry R es k v)) ≡ length (e ∷ es) + 1
      by Less is again = omega arith
      by Equal is again = absurd cc
      by Greater is again = (let longer = again is in omega arith)
