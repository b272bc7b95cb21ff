-- Rows with other values, or none, in place of theirs.
use Rattle.std.proofs.Common.{◌≡◌, suc, ◌≤◌, Bool, true, false, cond, List, [], ◌∷◌, ◌++◌, length, map, Option, Some, None, refl, sym, ap, subst, ◌∙◌, arith}
use Rattle.std.specs.Prelude.{not}
use Rattle.std.specs.List.{AllByRecursion, filter}
use Rattle.std.specs.List.Sorted.{IsStrictlySortedBy}
use Rattle.std.specs.Option.{option_and_then}
use Rattle.std.specs.declared.cmp.Ordering.TheVariants.{Less}
use Rattle.std.specs.Map.{keys_of, lookup, remove_entry}
use Rattle.std.specs.BTreeMap.{insert_entry, is_at}
use Rattle.babel_prefix.specs.declared.family.Family.{Family}
use Rattle.babel_prefix.proofs.Insertion.{lookup-insert, sorted-insert}
use Rattle.babel_tlv.specs.Route.{RouteKey}
use Rattle.babel_tlv.specs.Keys.{key_cmp}
use Rattle.babel_tlv.proofs.OrderLaws.{key_total}
use Rattle.babel_table.specs.Compact.{AreOf}
use Rattle.babel_table.specs.Rows.{IsRising}
use Rattle.babel_table.specs.Words.{replaced, with_value}
use Rattle.babel_table.proofs.Entries.{lookup-remove, sorted-remove}
use Rattle.babel_table.proofs.HoldsLaws.{same, same-is}
use Rattle.babel_table.proofs.SaidLaws.{same_entries}

-- ---- where keys stand

abbrev IsBelow : {W : Type 0} → RouteKey → List (RouteKey × W) → Type 0
IsBelow key rows = AllByRecursion (λ other. key_cmp key other ≡ Less) (keys_of rows)

absent-above : {V : Type 0} (key : RouteKey) (rows : List (RouteKey × V)) → IsBelow key rows → lookup (is_at (key_cmp key)) rows ≡ None
absent-above key [] below = refl
absent-above key (row ∷ rows) below = rw below.0 (absent-above key rows below.1)

module _ {V W : Type 0} (f : V → Option W) where
  below-replaced : (key : RouteKey) (rows : List (RouteKey × V)) → IsBelow key rows → IsBelow key (replaced f rows)
  below-replaced key [] below = tt
  below-replaced key (row ∷ rows) below = by (below-replaced key rows below.1) (f row.1)
    where
      by : IsBelow key (replaced f rows) → (o : Option W) → IsBelow key (with_value row.0 o (replaced f rows))
      by again None = again
      by again (Some value) = (below.0, again)

  pub rising-replaced : (rows : List (RouteKey × V)) → IsRising rows → IsRising (replaced f rows)
  unfolding IsStrictlySortedBy
  rising-replaced [] rising = tt
  rising-replaced (row ∷ rows) rising = by (rising-replaced rows rising.1) (f row.1)
    where
      by : IsRising (replaced f rows) → (o : Option W) → IsRising (with_value row.0 o (replaced f rows))
      by again None = again
      by again (Some value) = (below-replaced row.0 rows rising.0, again)

  pub lookup-replaced : (key : RouteKey) (rows : List (RouteKey × V)) → IsRising rows
      → lookup (is_at (key_cmp key)) (replaced f rows) ≡ option_and_then f (lookup (is_at (key_cmp key)) rows)
  unfolding IsStrictlySortedBy
  lookup-replaced key [] rising = refl
  lookup-replaced key (row ∷ rows) rising = by (lookup-replaced key rows rising.1) (same key row.0) refl (f row.1) refl
    where
      none : same key row.0 ≡ true → lookup (is_at (key_cmp key)) rows ≡ None
      none is = absent-above key rows (subst (λ (k : RouteKey). IsBelow k rows) (sym (same-is key row.0 is)) rising.0)

      by : lookup (is_at (key_cmp key)) (replaced f rows) ≡ option_and_then f (lookup (is_at (key_cmp key)) rows) → (b : Bool) → same key row.0 ≡ b → (o : Option W) → f row.1 ≡ o
          → lookup (is_at (key_cmp key)) (with_value row.0 o (replaced f rows)) ≡ option_and_then f (cond b (Some row.1) (lookup (is_at (key_cmp key)) rows))
      by again true is None gives = again ∙ ap (option_and_then f) (none is) ∙ sym gives
      by again true is (Some value) gives = rw is (sym gives)
      by again false is None gives = again
      by again false is (Some value) gives = rw is again

  pub of-replaced : (family : Family) (rows : List (RouteKey × V)) → AreOf family rows → AreOf family (replaced f rows)
  of-replaced family [] are = tt
  of-replaced family (row ∷ rows) are = by (of-replaced family rows are.1) (f row.1)
    where
      by : AreOf family (replaced f rows) → (o : Option W) → AreOf family (with_value row.0 o (replaced f rows))
      by again None = again
      by again (Some value) = (are.0, again)

  pub replaced-append : (front back : List (RouteKey × V)) → replaced f (front ++ back) ≡ replaced f front ++ replaced f back
  replaced-append [] back = refl
  replaced-append (row ∷ front) back = by (replaced-append front back) (f row.1)
    where
      by : replaced f (front ++ back) ≡ replaced f front ++ replaced f back → (o : Option W)
          → with_value row.0 o (replaced f (front ++ back)) ≡ with_value row.0 o (replaced f front) ++ replaced f back
      by again None = again
      by again (Some value) = ap (λ (t : List (RouteKey × W)). (row.0, value) ∷ t) again

  pub replaced-fewer : (rows : List (RouteKey × V)) → length (replaced f rows) ≤ length rows
  replaced-fewer [] = omega arith
  replaced-fewer (row ∷ rows) = by (replaced-fewer rows) (f row.1)
    where
      by : length (replaced f rows) ≤ length rows → (o : Option W) → length (with_value row.0 o (replaced f rows)) ≤ suc (length rows)
      by again None = omega (arith, again)
      by again (Some value) = omega (arith, again)

  -- what holds of each value that is given holds of all
  pub all-replaced : (P : RouteKey × V → Type 0) (Q : RouteKey × W → Type 0) → ((row : RouteKey × V) (value : W) → P row → f row.1 ≡ Some value → Q (row.0, value))
      → (rows : List (RouteKey × V)) → AllByRecursion P rows → AllByRecursion Q (replaced f rows)
  all-replaced P Q each [] all = tt
  all-replaced P Q each (row ∷ rows) all = by (all-replaced P Q each rows all.1) (f row.1) refl
    where
      by : AllByRecursion Q (replaced f rows) → (o : Option W) → f row.1 ≡ o → AllByRecursion Q (with_value row.0 o (replaced f rows))
      by again None gives = again
      by again (Some value) gives = (each row value all.0 gives, again)

-- ---- one after the other, and in other words

pub replaced-replaced : {U V W : Type 0} (f : U → Option V) (g : V → Option W) (rows : List (RouteKey × U)) → replaced g (replaced f rows) ≡ replaced (λ value. option_and_then g (f value)) rows
replaced-replaced f g [] = refl
replaced-replaced {U} {V} {W} f g (row ∷ rows) = by (replaced-replaced f g rows) (f row.1)
  where
    by : replaced g (replaced f rows) ≡ replaced (λ (value : U). option_and_then g (f value)) rows → (o : Option V)
        → replaced g (with_value row.0 o (replaced f rows)) ≡ with_value row.0 (option_and_then g o) (replaced (λ (value : U). option_and_then g (f value)) rows)
    by again None = again
    by again (Some value) = ap (with_value row.0 (g value)) again

-- what gives the same of each gives the same of all
pub replaced-same : {V W : Type 0} {P : RouteKey × V → Type 0} (f g : V → Option W) → ((row : RouteKey × V) → P row → f row.1 ≡ g row.1)
    → (rows : List (RouteKey × V)) → AllByRecursion P rows → replaced f rows ≡ replaced g rows
replaced-same f g each [] all = refl
replaced-same {V} {W} {P} f g each (row ∷ rows) all =
    ap (λ (o : Option W). with_value row.0 o (replaced f rows)) (each row all.0)
    ∙ ap (with_value row.0 (g row.1)) (replaced-same {P = P} f g each rows all.1)

pub replaced-map : {V W : Type 0} (f : V → W) (rows : List (RouteKey × V)) → map (λ row. (row.0, f row.1)) rows ≡ replaced (λ value. Some (f value)) rows
replaced-map f [] = refl
replaced-map {V} {W} f (row ∷ rows) = ap (λ (t : List (RouteKey × W)). (row.0, f row.1) ∷ t) (replaced-map f rows)

pub replaced-filter : {V : Type 0} (p : V → Bool) (rows : List (RouteKey × V)) → replaced (λ value. cond (p value) None (Some value)) rows ≡ filter (λ row. not (p row.1)) rows
replaced-filter p [] = refl
replaced-filter {V} p (row ∷ rows) = by (replaced-filter p rows) (p row.1)
  where
    by : replaced (λ (value : V). cond (p value) None (Some value)) rows ≡ filter (λ row. not (p row.1)) rows → (b : Bool)
        → with_value row.0 (cond b None (Some row.1)) (replaced (λ (value : V). cond (p value) None (Some value)) rows)
        ≡ cond (not b) (row ∷ filter (λ row. not (p row.1)) rows) (filter (λ row. not (p row.1)) rows)
    by again true = again
    by again false = ap (λ (t : List (RouteKey × V)). row ∷ t) again

-- ---- one row more, and one less

pub replaced-insert : {V W : Type 0} (f : V → Option W) (rows : List (RouteKey × V)) (key : RouteKey) (v : V) (w : W) → f v ≡ Some w → IsRising rows
    → replaced f (insert_entry key_cmp rows key v) ≡ insert_entry key_cmp (replaced f rows) key w
unfolding IsStrictlySortedBy
replaced-insert {V} {W} f rows key v w is rising =
    let more = sorted-insert key_total key v rows rising in
    let fewer = rising-replaced f rows rising in
    same_entries (replaced f (insert_entry key_cmp rows key v)) (insert_entry key_cmp (replaced f rows) key w) (rising-replaced f (insert_entry key_cmp rows key v) more)
    (sorted-insert key_total key w (replaced f rows) fewer)
    (λ q. lookup-replaced f q (insert_entry key_cmp rows key v) more
    ∙ ap (option_and_then f) (lookup-insert key_total q key v rows)
    ∙ by (same key q) (lookup (is_at (key_cmp q)) rows)
    ∙ sym (ap (cond (same key q) (Some w)) (lookup-replaced f q rows rising))
    ∙ sym (lookup-insert key_total q key w (replaced f rows)))
  where
    by : (b : Bool) (o : Option V) → option_and_then f (cond b (Some v) o) ≡ cond b (Some w) (option_and_then f o)
    by true o = is
    by false o = refl

pub replaced-remove : {V W : Type 0} (f : V → Option W) (rows : List (RouteKey × V)) (key : RouteKey) → IsRising rows
    → replaced f (remove_entry (is_at (key_cmp key)) rows) ≡ remove_entry (is_at (key_cmp key)) (replaced f rows)
unfolding IsStrictlySortedBy
replaced-remove {V} {W} f rows key rising =
    let less = sorted-remove key_total (is_at (key_cmp key)) rows rising in
    let fewer = rising-replaced f rows rising in
    same_entries (replaced f (remove_entry (is_at (key_cmp key)) rows)) (remove_entry (is_at (key_cmp key)) (replaced f rows)) (rising-replaced f (remove_entry (is_at (key_cmp key)) rows) less)
    (sorted-remove key_total (is_at (key_cmp key)) (replaced f rows) fewer)
    (λ q. lookup-replaced f q (remove_entry (is_at (key_cmp key)) rows) less
    ∙ ap (option_and_then f) (lookup-remove key_total q key rows rising)
    ∙ by (same key q) (lookup (is_at (key_cmp q)) rows)
    ∙ sym (ap (cond (same key q) None) (lookup-replaced f q rows rising))
    ∙ sym (lookup-remove key_total q key (replaced f rows) fewer))
  where
    by : (b : Bool) (o : Option V) → option_and_then f (cond b None o) ≡ cond b None (option_and_then f o)
    by true o = refl
    by false o = refl
