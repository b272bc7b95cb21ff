-- The keys that two lists of rows hold differently are all their differences, of which there is one list.
use Rattle.std.proofs.Common.{◌≡◌, Bool, true, false, cond, List, [], ◌∷◌, ◌++◌, map, Option, Some, None, refl, sym, ap, subst, ◌∙◌, inl, inr, Contains}
use Rattle.std.specs.Prelude.{◌≢◌, ◌⊎◌, not}
use Rattle.std.specs.List.{AllByRecursion, filter}
use Rattle.std.specs.List.Sorted.{IsStrictlySortedBy}
use Rattle.std.specs.Map.{keys_of, lookup}
use Rattle.std.specs.BTreeMap.{is_at}
use Rattle.std.specs.Ordering.{is_ne}
use Rattle.std.specs.declared.cmp.Ordering.{Ordering}
use Rattle.std.specs.declared.cmp.Ordering.TheVariants.{Less, Equal, Greater}
use Rattle.std.proofs.lemmas.Cmp.{eq_by_cmp_equiv, tied_itself}
use Rattle.std.proofs.lemmas.Map.Entries.{lookup-filter-values, option_filter}
use Rattle.std.proofs.lemmas.Map.Keys.{IsDistinct-from_sorted}
use Rattle.std.proofs.lemmas.Map.Views.{Contains-from_lookup, lookup-from_Contains}
use Rattle.babel_prefix.proofs.EntryLaws.{Listed-map, map-Listed}
use Rattle.babel_prefix.proofs.Members.{Contains-from_Listed, Listed-from_Contains}
use Rattle.babel_tlv.specs.declared.held.Held.{Held}
use Rattle.babel_tlv.specs.Keys.{key_cmp}
use Rattle.babel_tlv.specs.Pair.{Pair}
use Rattle.babel_tlv.specs.Pairs.{held_cmp}
use Rattle.babel_tlv.specs.Route.{RouteKey}
use Rattle.babel_tlv.proofs.OrderLaws.{key_total, held_exact}
use Rattle.babel_table.specs.Rows.{IsRising}
use Rattle.babel_table.proofs.HoldsLaws.{same-is}
use Rattle.babel_table.proofs.RowsLaws.{row_at}
use Rattle.babel_canon.specs.declared.every_difference.Difference.{Difference}
use Rattle.babel_canon.specs.Joined.{Joined, differ, difference_of, differing, joined}
use Rattle.babel_canon.specs.Routes.{AreRouteDifferences, HoldFor, IsRouteDifference, NoneWhereRoutesSame, RouteDifferencesAreOne}
use Rattle.babel_canon.proofs.Boxes.{held_test, held_tied, rising_one}
use Rattle.babel_canon.proofs.JoinedRows.{both, first_equal, joined_found, joined_rising, kept_later}

-- ---- what rows hold for a key is found there

found_at : {X : Type 0} (entries : List (RouteKey × X)) (key : RouteKey) (x : X) → IsStrictlySortedBy key_cmp (keys_of entries) → Contains entries (key, x)
    → lookup (is_at (key_cmp key)) entries ≡ Some x
found_at entries key x rising at = lookup-from_Contains (eq_by_cmp_equiv key_total) key x entries (IsDistinct-from_sorted key_cmp (keys_of entries) rising) at

held_at : (rows : List Pair) (key : RouteKey) (held : Option Held) → IsRising rows → HoldFor rows key held → row_at rows key ≡ held
held_at rows key (Some held) rising at = found_at rows key held rising at
held_at rows key None rising none = by (row_at rows key) refl
  where
    by : (o : Option Held) → row_at rows key ≡ o → row_at rows key ≡ None
    by None is = is
    by (Some held) is = absurd (none held (Contains-from_lookup same-is key held rows is))

at_held : (rows : List Pair) (key : RouteKey) (held : Option Held) → IsRising rows → row_at rows key ≡ held → HoldFor rows key held
at_held rows key (Some held) rising is = Contains-from_lookup same-is key held rows is
at_held rows key None rising is = λ held at. apart held (row_at rows key) is (found_at rows key held rising at)
  where
    apart : (held : Held) (o : Option Held) → o ≡ None → o ≡ Some held → ⊥
    apart held o a b = cc

-- ---- what differs is kept

abbrev Two : Type 0
Two = Option Held × Option Held

abbrev two : Held → Held → Two
two held other = (Some held, Some other)

parts : (pair x : Two) → Some pair ≡ Some x → (pair.0 ≡ x.0) × (pair.1 ≡ x.1)
parts pair x e =
    let is : pair ≡ x = cc in
    (ap (λ (t : Two). t.0) is, ap (λ (t : Two). t.1) is)

-- two that are held are kept where they differ
kept_routes : (held other : Held) (order : Ordering) → held_cmp held other ≡ order → (x : Two) → cond (is_ne order) (Some (two held other)) None ≡ Some x
    → (Some held ≡ x.0) × (Some other ≡ x.1) × (Some held ≢ Some other)
kept_routes held other order is x e = by order is e
  where
    apart : (o : Ordering) → held_cmp held other ≡ o → (o ≡ Equal → ⊥) → Some held ≢ Some other
    apart o is never same =
        let one : held ≡ other = cc in
        never (sym is ∙ ap (held_cmp held) (sym one) ∙ held_tied held)

    by : (o : Ordering) → held_cmp held other ≡ o → cond (is_ne o) (Some (two held other)) None ≡ Some x
        → (Some held ≡ x.0) × (Some other ≡ x.1) × (Some held ≢ Some other)
    by Less is e = let p = parts (two held other) x e in (p.0, p.1, apart Less is (λ y. cc))
    by Equal is e = absurd cc
    by Greater is e = let p = parts (two held other) x e in (p.0, p.1, apart Greater is (λ y. cc))

kept_as : (one other : Option Held) (x : Two) → option_filter differ (both one other) ≡ Some x
    → (one ≡ x.0) × (other ≡ x.1) × (one ≢ other)
kept_as None None x e = absurd cc
kept_as None (Some held) x e = let p = parts (None, Some held) x e in (p.0, p.1, λ same. cc)
kept_as (Some held) None x e = let p = parts (Some held, None) x e in (p.0, p.1, λ same. cc)
kept_as (Some held) (Some other) x e = kept_routes held other (held_cmp held other) refl x e

differs_kept : (one other : Option Held) → one ≢ other → option_filter differ (both one other) ≡ Some (one, other)
differs_kept None None differs = absurd (differs refl)
differs_kept None (Some held) differs = refl
differs_kept (Some held) None differs = refl
differs_kept (Some held) (Some other) differs = by (held_cmp held other) refl
  where
    by : (order : Ordering) → held_cmp held other ≡ order → cond (is_ne order) (Some (two held other)) None ≡ Some (two held other)
    by Less is = refl
    by Equal is = absurd (differs (ap Some (held_exact held other is)))
    by Greater is = refl

-- ---- the keys that are kept rise

module _ (p : Joined → Bool) where
  kept_above : (key : RouteKey) (entries : List Joined) → AllByRecursion (λ other. key_cmp key other ≡ Less) (keys_of entries)
      → AllByRecursion (λ other. key_cmp key other ≡ Less) (keys_of (filter p entries))
  kept_above key [] above = tt
  kept_above key (entry ∷ entries) above = by (p entry) (kept_above key entries above.1)
    where
      by : (b : Bool) → AllByRecursion (λ other. key_cmp key other ≡ Less) (keys_of (filter p entries))
          → AllByRecursion (λ other. key_cmp key other ≡ Less) (keys_of (cond b (entry ∷ filter p entries) (filter p entries)))
      by true rest = (above.0, rest)
      by false rest = rest

  kept_rising : (entries : List Joined) → IsStrictlySortedBy key_cmp (keys_of entries) → IsStrictlySortedBy key_cmp (keys_of (filter p entries))
  unfolding IsStrictlySortedBy
  kept_rising [] rising = tt
  kept_rising (entry ∷ entries) rising = by (p entry) (kept_rising entries rising.1)
    where
      by : (b : Bool) → IsStrictlySortedBy key_cmp (keys_of (filter p entries)) → IsStrictlySortedBy key_cmp (keys_of (cond b (entry ∷ filter p entries) (filter p entries)))
      by true rest = (kept_above entry.0 entries rising.0, rest)
      by false rest = rest

difference_keys : (entries : List Joined) → map (λ (d : Difference). d.key) (map difference_of entries) ≡ keys_of entries
difference_keys [] = refl
difference_keys (entry ∷ entries) = ap (λ (keys : List RouteKey). entry.0 ∷ keys) (difference_keys entries)

-- ---- these are all differences

pub differences_are : (rows others : List Pair) → IsRising rows → IsRising others → AreRouteDifferences rows others (differing rows others)
differences_are rows others up down = record {
  rising = subst (IsStrictlySortedBy key_cmp) (sym (difference_keys kept)) rising;
  exact = λ difference. (to difference, from difference);
}
  where
    kept : List Joined
    kept = filter (λ entry. differ entry.1) (joined rows others)

    rising : IsStrictlySortedBy key_cmp (keys_of kept)
    rising = kept_rising (λ entry. differ entry.1) (joined rows others) (joined_rising rows others up down)

    found : (key : RouteKey) → lookup (is_at (key_cmp key)) kept ≡ option_filter differ (both (row_at rows key) (row_at others key))
    found key =
        lookup-filter-values (eq_by_cmp_equiv key_total) differ key (joined rows others) (IsDistinct-from_sorted key_cmp (keys_of (joined rows others)) (joined_rising rows others up down))
        ∙ ap (option_filter differ) (joined_found rows others key up down)

    to : (difference : Difference) → Contains (differing rows others) difference → IsRouteDifference rows others difference
    to difference at =
        let entry = Listed-map difference_of kept difference (Listed-from_Contains (differing rows others) difference at) in
        let key = entry.0.0 in
        let is = kept_as (row_at rows key) (row_at others key) entry.0.1
        (sym (found key) ∙ found_at kept key entry.0.1 rising (Contains-from_Listed kept entry.0 entry.1)) in
        subst (IsRouteDifference rows others) entry.2 (record {
          left = at_held rows key entry.0.1.0 up is.0;
          right = at_held others key entry.0.1.1 down is.1;
          differs = λ same. is.2 (is.0 ∙ same ∙ sym is.1);
        })

    from : (difference : Difference) → IsRouteDifference rows others difference → Contains (differing rows others) difference
    from difference is =
        let key = difference.key in
        let left = held_at rows key difference.left up is.left in
        let right = held_at others key difference.right down is.right in
        let kept_is : option_filter differ (both (row_at rows key) (row_at others key)) ≡ Some (row_at rows key, row_at others key) =
        differs_kept (row_at rows key) (row_at others key) (λ same. is.differs (sym left ∙ same ∙ right)) in
        let at = Contains-from_lookup same-is key (row_at rows key, row_at others key) kept (found key ∙ kept_is) in
        let is_difference : difference_of (key, (row_at rows key, row_at others key)) ≡ difference =
        ap (λ (o : Option Held). difference_of (key, (o, row_at others key))) left ∙ ap (λ (o : Option Held). difference_of (key, (difference.left, o))) right in
        subst (Contains (differing rows others)) is_difference
        (Contains-from_Listed (differing rows others) (difference_of (key, (row_at rows key, row_at others key)))
        (map-Listed difference_of kept (key, (row_at rows key, row_at others key)) (Listed-from_Contains kept (key, (row_at rows key, row_at others key)) at)))

-- ---- what both begin with is no difference

alike_first : (alike rows others : List Pair) → differing (alike ++ rows) (alike ++ others) ≡ differing rows others
alike_first [] rows others = refl
alike_first (row ∷ alike) rows others =
    let first = first_equal (row ∷ alike ++ rows) (row ∷ alike ++ others) (alike ++ rows) (alike ++ others) row row refl refl (tied_itself key_total row.0) in
    sym (kept_later _ _ _ first (ap is_ne (held_tied row.1))) ∙ alike_first alike rows others

pub alike_passed : (rows others left right alike : List Pair) → rows ≡ alike ++ left → others ≡ alike ++ right → differing left right ≡ differing rows others
alike_passed rows others left right alike is also = rw (is, also) (sym (alike_first alike left right))

-- ---- there is one list of them

pub route_differences_are_one : RouteDifferencesAreOne
route_differences_are_one rows others differences too are are_too =
    rising_one (λ (d : Difference). d.key) differences too are.rising are_too.rising
    (λ d at. (are_too.exact d).1 ((are.exact d).0 at)) (λ d at. (are.exact d).1 ((are_too.exact d).0 at))

-- ---- there is none where the rows are equal

held_alike : (one other : Option Held) → (one ≡ other) ⊎ (one ≢ other)
held_alike None None = inl refl
held_alike None (Some held) = inr (λ same. cc)
held_alike (Some held) None = inr (λ same. cc)
held_alike (Some held) (Some other) = by (held_test held other)
  where
    by : (held ≡ other) ⊎ (held ≢ other) → (Some held ≡ Some other) ⊎ (Some held ≢ Some other)
    by (inl is) = inl (ap Some is)
    by (inr not) = inr (λ same. not cc)

pub none_where_routes_same : NoneWhereRoutesSame
none_where_routes_same rows others differences are_rows are_others are = (
  (λ none. rising_one (λ (pair : Pair). pair.0) rows others up down (too rows others up down (same_at none)) (too others rows down up (λ key. sym (same_at none key)))),
  (λ same. none_of differences (λ d at. equal same d ((are.exact d).0 at))),
)
  where
    up : IsRising rows
    up = are_rows.rising

    down : IsRising others
    down = are_others.rising

    same_at : differences ≡ [] → (key : RouteKey) → row_at rows key ≡ row_at others key
    same_at none key = by (held_alike (row_at rows key) (row_at others key))
      where
        by : (row_at rows key ≡ row_at others key) ⊎ (row_at rows key ≢ row_at others key) → row_at rows key ≡ row_at others key
        by (inl is) = is
        by (inr differs) =
            let d : Difference = record { key = key; left = row_at rows key; right = row_at others key } in
            let at = (are.exact d).1 (record { left = at_held rows key d.left up refl; right = at_held others key d.right down refl; differs = differs }) in
            absurd (Listed-from_Contains [] d (subst (λ (ds : List Difference). Contains ds d) none at))

    too : (one other : List Pair) → IsRising one → IsRising other → ((key : RouteKey) → row_at one key ≡ row_at other key) → (pair : Pair) → Contains one pair → Contains other pair
    too one other rises other_rises same pair at = at_held other pair.0 (Some pair.1) other_rises (sym (same pair.0) ∙ found_at one pair.0 pair.1 rises at)

    equal : rows ≡ others → (d : Difference) → IsRouteDifference rows others d → ⊥
    equal same d is = is.differs (sym (held_at rows d.key d.left up is.left) ∙ ap (λ (l : List Pair). row_at l d.key) same ∙ held_at others d.key d.right down is.right)

    none_of : (ds : List Difference) → ((d : Difference) → Contains ds d → ⊥) → ds ≡ []
    none_of [] none = refl
    none_of (d ∷ ds) none = absurd (none d (Contains-from_Listed (d ∷ ds) d (inl refl)))
