-- Rows of IPv4, and then rows of IPv6: what is found, put and forgotten in one part is so in the whole.
use Rattle.std.proofs.Common.{◌≡◌, ℕ, ◌+◌, Bool, true, false, cond, List, [], ◌∷◌, ◌++◌, length, Option, Some, None, refl, sym, ap, ◌∙◌, inl, inr, Result, Ok, Err, OnOk, arith, length-append}
use Rattle.std.specs.Prelude.{OnErr}
use Rattle.std.specs.declared.cmp.Ordering.{Ordering}
use Rattle.std.specs.declared.cmp.Ordering.TheVariants.{Less, Equal, Greater}
use Rattle.std.specs.Ordering.{match_ordering}
use Rattle.std.specs.List.{AllByRecursion, Contains}
use Rattle.std.specs.Option.{is_some}
use Rattle.std.proofs.lemmas.List.Elements.{All-from_recursion, All-contains, Contains-append_cases, Contains-append_left, Contains-append_right}
use Rattle.std.specs.List.Sorted.{IsStrictlySortedBy}
use Rattle.std.specs.Map.{keys_of, lookup, remove_entry}
use Rattle.std.specs.BTreeMap.{insert_entry, is_at}
use Rattle.babel_prefix.specs.declared.family.Family.{Family}
use Rattle.babel_prefix.specs.declared.family.Family.TheVariants.{V4, V6}
use Rattle.babel_tlv.specs.Route.{RouteKey}
use Rattle.babel_tlv.specs.Keys.{key_cmp}
use Rattle.babel_prefix.specs.Address.{Address}
use Rattle.babel_tlv.specs.declared.held.Held.{Held}
use Rattle.babel_tlv.specs.Pair.{Pair}
use Rattle.babel_tlv.specs.Pairs.{IsPair}
use Rattle.babel_table.specs.BestMatch.{ContainsBoth}
use Rattle.babel_table.specs.RowFor.{IsBestOf}
use Rattle.babel_table.specs.Live.{Kept, current, live_rows}
use Rattle.babel_table.specs.TableRows.{AreRows}
use Rattle.babel_table.specs.Compact.{AreOf}

abbrev IsOf : Family → RouteKey → Type 0
IsOf family key = key.dst.address.family ≡ family

v4_first : (k l : RouteKey) → IsOf V4 k → IsOf V6 l → key_cmp k l ≡ Less
v4_first k l v4 v6 = rw (v4, v6) refl

v6_last : (k l : RouteKey) → IsOf V6 k → IsOf V4 l → key_cmp k l ≡ Greater
v6_last k l v6 v4 = rw (v6, v4) refl

module _ {V : Type 0} where
  -- ---- of one family

  pub of-insert : (f : Family) (k : RouteKey) (v : V) (es : List (RouteKey × V)) → IsOf f k → AreOf f es → AreOf f (insert_entry key_cmp es k v)
  of-insert f k v [] is are = (is, tt)
  of-insert f k v (e ∷ es) is are = by (of-insert f k v es is are.1) (key_cmp k e.0)
    where
      by : AreOf f (insert_entry key_cmp es k v) → (r : Ordering) → AreOf f (match_ordering r ((k, v) ∷ e ∷ es) ((e.0, v) ∷ es) (e ∷ insert_entry key_cmp es k v))
      by again Less = (is, are)
      by again Equal = are
      by again Greater = (are.0, again)

  pub of-remove : (f : Family) (test : RouteKey → Bool) (es : List (RouteKey × V)) → AreOf f es → AreOf f (remove_entry test es)
  of-remove f test [] are = tt
  of-remove f test (e ∷ es) are = by (of-remove f test es are.1) (test e.0)
    where
      by : AreOf f (remove_entry test es) → (b : Bool) → AreOf f (cond b es (e ∷ remove_entry test es))
      by again true = are.1
      by again false = (are.0, again)

  -- ---- an IPv4 key

  none_v6 : (k : RouteKey) (b : List (RouteKey × V)) → IsOf V4 k → AreOf V6 b → lookup (is_at (key_cmp k)) b ≡ None
  none_v6 k [] is are = refl
  none_v6 k (e ∷ b) is are = rw (v4_first k e.0 is are.0) (none_v6 k b is are.1)

  pub lookup-v4 : (k : RouteKey) (a b : List (RouteKey × V)) → IsOf V4 k → AreOf V6 b → lookup (is_at (key_cmp k)) (a ++ b) ≡ lookup (is_at (key_cmp k)) a
  lookup-v4 k [] b is are = none_v6 k b is are
  lookup-v4 k (e ∷ a) b is are = ap (λ (t : Option V). cond (is_at (key_cmp k) e.0) (Some e.1) t) (lookup-v4 k a b is are)

  pub insert-v4 : (k : RouteKey) (v : V) (a b : List (RouteKey × V)) → IsOf V4 k → AreOf V6 b → insert_entry key_cmp (a ++ b) k v ≡ insert_entry key_cmp a k v ++ b
  insert-v4 k v [] [] is are = refl
  insert-v4 k v [] (e ∷ b) is are = rw (v4_first k e.0 is are.0) refl
  insert-v4 k v (e ∷ a) b is are = by (insert-v4 k v a b is are) (key_cmp k e.0)
    where
      by : insert_entry key_cmp (a ++ b) k v ≡ insert_entry key_cmp a k v ++ b → (r : Ordering) → match_ordering r ((k, v) ∷ e ∷ (a ++ b)) ((e.0, v) ∷ (a ++ b)) (e ∷ insert_entry key_cmp (a ++ b) k v)
          ≡ match_ordering r ((k, v) ∷ e ∷ a) ((e.0, v) ∷ a) (e ∷ insert_entry key_cmp a k v) ++ b
      by again Less = refl
      by again Equal = refl
      by again Greater = ap (λ (t : List (RouteKey × V)). e ∷ t) again

  all_stay : (k : RouteKey) (b : List (RouteKey × V)) → IsOf V4 k → AreOf V6 b → remove_entry (is_at (key_cmp k)) b ≡ b
  all_stay k [] is are = refl
  all_stay k (e ∷ b) is are = rw (v4_first k e.0 is are.0) (ap (λ (t : List (RouteKey × V)). e ∷ t) (all_stay k b is are.1))

  pub remove-v4 : (k : RouteKey) (a b : List (RouteKey × V)) → IsOf V4 k → AreOf V6 b → remove_entry (is_at (key_cmp k)) (a ++ b) ≡ remove_entry (is_at (key_cmp k)) a ++ b
  remove-v4 k [] b is are = all_stay k b is are
  remove-v4 k (e ∷ a) b is are = by (remove-v4 k a b is are) (is_at (key_cmp k) e.0)
    where
      by : remove_entry (is_at (key_cmp k)) (a ++ b) ≡ remove_entry (is_at (key_cmp k)) a ++ b → (t : Bool)
          → cond t (a ++ b) (e ∷ remove_entry (is_at (key_cmp k)) (a ++ b)) ≡ cond t a (e ∷ remove_entry (is_at (key_cmp k)) a) ++ b
      by again true = refl
      by again false = ap (λ (t : List (RouteKey × V)). e ∷ t) again

  -- ---- an IPv6 key

  pub lookup-v6 : (k : RouteKey) (a b : List (RouteKey × V)) → IsOf V6 k → AreOf V4 a → lookup (is_at (key_cmp k)) (a ++ b) ≡ lookup (is_at (key_cmp k)) b
  lookup-v6 k [] b is are = refl
  lookup-v6 k (e ∷ a) b is are = rw (v6_last k e.0 is are.0) (lookup-v6 k a b is are.1)

  pub insert-v6 : (k : RouteKey) (v : V) (a b : List (RouteKey × V)) → IsOf V6 k → AreOf V4 a → insert_entry key_cmp (a ++ b) k v ≡ a ++ insert_entry key_cmp b k v
  insert-v6 k v [] b is are = refl
  insert-v6 k v (e ∷ a) b is are = rw (v6_last k e.0 is are.0) (ap (λ (t : List (RouteKey × V)). e ∷ t) (insert-v6 k v a b is are.1))

  pub remove-v6 : (k : RouteKey) (a b : List (RouteKey × V)) → IsOf V6 k → AreOf V4 a → remove_entry (is_at (key_cmp k)) (a ++ b) ≡ a ++ remove_entry (is_at (key_cmp k)) b
  remove-v6 k [] b is are = refl
  remove-v6 k (e ∷ a) b is are = rw (v6_last k e.0 is are.0) (ap (λ (t : List (RouteKey × V)). e ∷ t) (remove-v6 k a b is are.1))

  -- ---- the whole

  below_both : (k : RouteKey) (a b : List (RouteKey × V)) → IsOf V4 k → AreOf V6 b → AllByRecursion (λ y. key_cmp k y ≡ Less) (keys_of a) → AllByRecursion (λ y. key_cmp k y ≡ Less) (keys_of (a ++ b))
  below_both k [] [] is are below = tt
  below_both k [] (e ∷ b) is are below = (v4_first k e.0 is are.0, below_both k [] b is are.1 below)
  below_both k (e ∷ a) b is are below = (below.0, below_both k a b is are below.1)

  pub rising-both : (a b : List (RouteKey × V)) → AreOf V4 a → AreOf V6 b → IsStrictlySortedBy key_cmp (keys_of a)
      → IsStrictlySortedBy key_cmp (keys_of b) → IsStrictlySortedBy key_cmp (keys_of (a ++ b))
  unfolding IsStrictlySortedBy
  rising-both [] b v4 v6 left right = right
  rising-both (e ∷ a) b v4 v6 left right = (below_both e.0 a b v4.0 v6 left.0, rising-both a b v4.1 v6 left.1 right)

  -- ---- the parts of a whole

  below_left : (k : RouteKey) (a b : List (RouteKey × V)) → AllByRecursion (λ y. key_cmp k y ≡ Less) (keys_of (a ++ b)) → AllByRecursion (λ y. key_cmp k y ≡ Less) (keys_of a)
  below_left k [] b below = tt
  below_left k (e ∷ a) b below = (below.0, below_left k a b below.1)

  pub rising-left : (a b : List (RouteKey × V)) → IsStrictlySortedBy key_cmp (keys_of (a ++ b)) → IsStrictlySortedBy key_cmp (keys_of a)
  unfolding IsStrictlySortedBy
  rising-left [] b rising = tt
  rising-left (e ∷ a) b rising = (below_left e.0 a b rising.0, rising-left a b rising.1)

  pub rising-right : (a b : List (RouteKey × V)) → IsStrictlySortedBy key_cmp (keys_of (a ++ b)) → IsStrictlySortedBy key_cmp (keys_of b)
  unfolding IsStrictlySortedBy
  rising-right [] b rising = rising
  rising-right (e ∷ a) b rising = rising-right a b rising.1

  pub each-left : (P : RouteKey × V → Type 0) (a b : List (RouteKey × V)) → AllByRecursion P (a ++ b) → AllByRecursion P a
  each-left P [] b each = tt
  each-left P (e ∷ a) b each = (each.0, each-left P a b each.1)

  pub each-right : (P : RouteKey × V → Type 0) (a b : List (RouteKey × V)) → AllByRecursion P (a ++ b) → AllByRecursion P b
  each-right P [] b each = each
  each-right P (e ∷ a) b each = each-right P a b each.1

  -- ---- what a call that may fail makes of a part

  pub of-put : {T E : Type 0} (r : Result T E) (f : Family) (k : RouteKey) (v : V) (old new : List (RouteKey × V))
      → OnOk r (new ≡ insert_entry key_cmp old k v) → OnErr r (new ≡ old) → IsOf f k → AreOf f old → AreOf f new
  of-put (Ok x) f k v old new ok err is are = rw ok (of-insert f k v old is are)
  of-put (Err e) f k v old new ok err is are = rw err are

  pub put-v4 : {T E : Type 0} (r : Result T E) (k : RouteKey) (v : V) (a new b : List (RouteKey × V)) → IsOf V4 k → AreOf V6 b
      → OnOk r (new ≡ insert_entry key_cmp a k v) → OnOk r (new ++ b ≡ insert_entry key_cmp (a ++ b) k v)
  put-v4 (Ok x) k v a new b is are ok = ap (λ (t : List (RouteKey × V)). t ++ b) ok ∙ sym (insert-v4 k v a b is are)
  put-v4 (Err e) k v a new b is are ok = tt

  pub put-v6 : {T E : Type 0} (r : Result T E) (k : RouteKey) (v : V) (a b new : List (RouteKey × V)) → IsOf V6 k → AreOf V4 a
      → OnOk r (new ≡ insert_entry key_cmp b k v) → OnOk r (a ++ new ≡ insert_entry key_cmp (a ++ b) k v)
  put-v6 (Ok x) k v a b new is are ok = ap (λ (t : List (RouteKey × V)). a ++ t) ok ∙ sym (insert-v6 k v a b is are)
  put-v6 (Err e) k v a b new is are ok = tt

  pub len-v4 : {T E : Type 0} (r : Result T E) (k : RouteKey) (a new b : List (RouteKey × V)) → IsOf V4 k → AreOf V6 b
      → OnOk r (length new ≡ length a + cond (is_some (lookup (is_at (key_cmp k)) a)) 0 1)
      → OnOk r (length (new ++ b) ≡ length (a ++ b) + cond (is_some (lookup (is_at (key_cmp k)) (a ++ b))) 0 1)
  len-v4 (Ok x) k a new b is are ok = rw (lookup-v4 k a b is are) (omega (arith, ok, length-append new b, length-append a b))
  len-v4 (Err e) k a new b is are ok = tt

  pub len-v6 : {T E : Type 0} (r : Result T E) (k : RouteKey) (a b new : List (RouteKey × V)) → IsOf V6 k → AreOf V4 a
      → OnOk r (length new ≡ length b + cond (is_some (lookup (is_at (key_cmp k)) b)) 0 1)
      → OnOk r (length (a ++ new) ≡ length (a ++ b) + cond (is_some (lookup (is_at (key_cmp k)) (a ++ b))) 0 1)
  len-v6 (Ok x) k a b new is are ok = rw (lookup-v6 k a b is are) (omega (arith, ok, length-append a new, length-append a b))
  len-v6 (Err e) k a b new is are ok = tt

-- ---- the rows that are kept

pub of-live_rows : (f : Family) (wipes : ℕ) (es : List (RouteKey × Kept)) → AreOf f es → AreOf f (live_rows wipes es)
of-live_rows f wipes [] are = tt
of-live_rows f wipes (e ∷ es) are = (are.0, of-live_rows f wipes es are.1)

pub live_rows-append : (wipes : ℕ) (a b : List (RouteKey × Kept)) → live_rows wipes (a ++ b) ≡ live_rows wipes a ++ live_rows wipes b
live_rows-append wipes [] b = refl
live_rows-append wipes (e ∷ a) b = ap (λ (t : List (RouteKey × Held)). (e.0, current wipes e.1) ∷ t) (live_rows-append wipes a b)

-- ---- the best match, by family

pub rows-left : (a b : List Pair) → AreRows (a ++ b) → AreRows a
rows-left a b are = record { rising = rising-left a b are.rising; each = each-left IsPair a b are.each }

pub rows-right : (a b : List Pair) → AreRows (a ++ b) → AreRows b
rows-right a b are = record { rising = rising-right a b are.rising; each = each-right IsPair a b are.each }

-- no row of another family contains the address
not_of : (f g : Family) (rows : List Pair) (row : Pair) (d s : Address) → (f ≡ g → ⊥) → AreOf f rows → d.family ≡ g → Contains rows row → ContainsBoth d s row.0 → ⊥
not_of f g rows row d s apart are of c both =
    let is : row.0.dst.address.family ≡ f = All-contains (λ (r : Pair). r.0.dst.address.family ≡ f) rows row (All-from_recursion (λ (r : Pair). r.0.dst.address.family ≡ f) rows are) c in
    apart (sym is ∙ both.0.0 ∙ of)

pub match-v4 : (found : Option Pair) (a b : List Pair) (d s : Address) → AreOf V6 b → d.family ≡ V4 → IsBestOf a d s found
    → IsBestOf (a ++ b) d s found
match-v4 None a b d s are of none = λ key held c both.
    elim (Contains-append_cases a b (key, held) c) [ inl left ↦ none key held left both | inr right ↦ not_of V6 V4 b (key, held) d s (λ e. absurd cc) are of right both ]
match-v4 (Some row) a b d s are of best = record {
  listed = Contains-append_left a b row best.listed;
  matching = best.matching;
  best = λ other c both.
      elim (Contains-append_cases a b other c) [ inl left ↦ best.best other left both | inr right ↦ absurd (not_of V6 V4 b other d s (λ e. absurd cc) are of right both) ];
}

pub match-v6 : (found : Option Pair) (a b : List Pair) (d s : Address) → AreOf V4 a → d.family ≡ V6 → IsBestOf b d s found
    → IsBestOf (a ++ b) d s found
match-v6 None a b d s are of none = λ key held c both.
    elim (Contains-append_cases a b (key, held) c) [ inl left ↦ not_of V4 V6 a (key, held) d s (λ e. absurd cc) are of left both | inr right ↦ none key held right both ]
match-v6 (Some row) a b d s are of best = record {
  listed = Contains-append_right a b row best.listed;
  matching = best.matching;
  best = λ other c both.
      elim (Contains-append_cases a b other c) [ inl left ↦ absurd (not_of V4 V6 a other d s (λ e. absurd cc) are of left both) | inr right ↦ best.best other right both ];
}
