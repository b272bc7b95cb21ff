-- What was said of each key, whatever the order in which the keys came.
use Rattle.std.proofs.Common.{◌≡◌, ℕ, zero, suc, ◌+◌, ◌-◌, ◌^◌, ◌<◌, ◌≤◌, Bool, true, false, cond, T, List, [], ◌∷◌, ◌++◌, length, set, get_or, take}
use Rattle.std.proofs.Common.{Option, Some, None, Ok, Err, MatchOption, inl, inr, refl, sym, ap, subst, ◌∙◌, length-append, arith}
use mir.Val.{bool_byte}
use Rattle.std.specs.Prelude.{◌&&◌, ◌||◌, not, OnErr, Result}
use Rattle.std.specs.Cmp.{IsStrictWeakOrder}
use Rattle.std.specs.declared.cmp.Ordering.{Ordering}
use Rattle.std.specs.declared.cmp.Ordering.TheVariants.{Less, Equal, Greater}
use Rattle.std.specs.Ordering.{is_eq, is_lt, match_ordering, ordering_reverse, eq_by_cmp}
use Rattle.std.specs.Option.{is_some, is_none}
use Rattle.std.specs.List.{AllByRecursion, Contains, IsDistinct, filter, list_any, slice_get}
use Rattle.std.specs.List.Sorted.{IsStrictlySortedBy, IsSortedBy, IsPermutation, IsSearchInRange, IsBinarySearchResult}
use Rattle.std.specs.Map.{keys_of, lookup, remove_entry}
use Rattle.std.specs.BTreeMap.{insert_entry, is_at}
use Rattle.std.specs.FinMap.Entries as finite
use Rattle.std.proofs.Math.ListN.{get_or-map, get_or-append}
use Rattle.std.proofs.Math.Seq.{map-set_same, get_or-append_seam}
use Rattle.std.proofs.lemmas.Bool.{cases_lt}
use Rattle.std.proofs.lemmas.Cmp.{tied_itself, eq_by_cmp_equiv}
use Rattle.std.proofs.lemmas.List.{get_or_default, take_all, take-append-le, take-map, length-take-le}
use Rattle.std.proofs.lemmas.List.Sorted.{IsPermutation-map, IsPermutation-sym, Contains-permutation}
use Rattle.std.proofs.lemmas.Option.{get_or_from_slice_get}
use Rattle.std.proofs.lemmas.Map.Entries.{length-keys_of, lookup-filter-values, option_filter}
use Rattle.std.proofs.lemmas.Map.Keys.{IsDistinct-IsPermutation, IsDistinct-from_sorted, apart_from_distinct}
use Rattle.std.proofs.lemmas.Map.Made.{is_some-lookup}
use Rattle.std.proofs.lemmas.Map.Views.{Contains-from_lookup, lookup-from_Contains}
use Rattle.babel_tlv.specs.Keys.{key_cmp}
use Rattle.babel_tlv.specs.Route.{RouteKey}
use Rattle.babel_tlv.proofs.OrderLaws.{key_total, key_exact}
use Rattle.babel_table.specs.Live.{Kept}
use Rattle.babel_table.specs.Rows.{IsRising}
use Rattle.babel_table.specs.Said.{Words, say, standing, AreDistinct, IsAbsent, IsPlace, Places, IsListed, IsUnlisted, AreListed, AreIndexed, AreCounted, AreAbove}
use Rattle.babel_table.proofs.SearchLaws.{searchable, missed, less_not_greater}
use Rattle.babel_prefix.proofs.Insertion.{is_at-sym, equal_of, lookup-insert, sorted-insert, below_all}
use Rattle.babel_table.proofs.Entries.{lookup-remove, sorted-remove, miss_below}

both : (a b : Bool) → T a → T b → T (a && b)
both true b x y = y
both false b x y = absurd x

abbrev pub found : {X : Type 0} → RouteKey → List (RouteKey × X) → Option X
found q es = lookup (is_at (key_cmp q)) es

abbrev pub AreBelow : {X : Type 0} → RouteKey → List (RouteKey × X) → Type 0
AreBelow k es = AllByRecursion (λ y. key_cmp k y ≡ Less) (keys_of es)

-- the key, as it is found among others
pub same_key : (k q : RouteKey) → is_at (key_cmp k) q ≡ true → q ≡ k
same_key k q e = key_exact q k (equal_of (key_cmp q k) (is_at-sym key_total q k ∙ e))

pub at_itself : (k : RouteKey) → is_at (key_cmp k) k ≡ true
at_itself k = ap is_eq (tied_itself key_total k)

less_of : (r : Ordering) → is_lt r ≡ true → r ≡ Less
less_of Less e = refl
less_of Equal e = absurd cc
less_of Greater e = absurd cc

-- ---- entries in order are one where the same is found in both

module _ {X : Type 0} where
  find-found : (q : RouteKey) (es : List (RouteKey × X)) → finite.find key_cmp q es ≡ found q es
  find-found q [] = refl
  find-found q (e ∷ es) = ap (λ (t : Option X). cond (is_at (key_cmp q) e.0) (Some e.1) t) (find-found q es)

  test-below : (k : RouteKey) (es : List (RouteKey × X)) → AreBelow k es → T (finite.below_all key_cmp k es)
  test-below k [] below = tt
  test-below k (e ∷ es) below = rw below.0 (test-below k es below.1)

  test-sorted : (es : List (RouteKey × X)) → IsRising es → T (finite.is_sorted key_cmp es)
  unfolding IsStrictlySortedBy
  test-sorted [] rising = tt
  test-sorted (e ∷ es) rising = both _ _ (test-below e.0 es rising.0) (test-sorted es rising.1)

  pub same_entries : (es fs : List (RouteKey × X)) → IsRising es → IsRising fs → ((q : RouteKey) → found q es ≡ found q fs) → es ≡ fs
  same_entries es fs s t same = finite.same_entries key_cmp key_total key_exact es fs (test-sorted es s) (test-sorted fs t) (λ q. find-found q es ∙ same q ∙ sym (find-found q fs))

-- ---- keys that are absent

pub none_of : {T : Type 0} (o : Option T) → is_some o ≡ false → o ≡ None
none_of None e = refl
none_of (Some x) e = absurd cc

pub absent_of : {X : Type 0} (k : RouteKey) (es : List (RouteKey × X)) → found k es ≡ None → IsAbsent k (keys_of es)
absent_of k es none = sym (is_some-lookup (is_at (key_cmp k)) es) ∙ ap is_some none

none_from_absent : {X : Type 0} (k : RouteKey) (es : List (RouteKey × X)) → IsAbsent k (keys_of es) → found k es ≡ None
none_from_absent k es absent = none_of (found k es) (is_some-lookup (is_at (key_cmp k)) es ∙ absent)

left_false : (a b : Bool) → (a || b) ≡ false → a ≡ false
left_false true b e = absurd cc
left_false false b e = refl

right_false : (a b : Bool) → (a || b) ≡ false → b ≡ false
right_false true b e = absurd cc
right_false false b e = e

either_false : (a b : Bool) → a ≡ false → b ≡ false → (a || b) ≡ false
either_false true b x y = absurd cc
either_false false b x y = y

absent_head : (k x : RouteKey) (ks : List RouteKey) → IsAbsent k (x ∷ ks) → is_at (key_cmp k) x ≡ false
absent_head k x ks absent = left_false (is_at (key_cmp k) x) (list_any (is_at (key_cmp k)) ks) absent

absent_tail : (k x : RouteKey) (ks : List RouteKey) → IsAbsent k (x ∷ ks) → IsAbsent k ks
absent_tail k x ks absent = right_false (is_at (key_cmp k) x) (list_any (is_at (key_cmp k)) ks) absent

absent_push : (k x : RouteKey) (ks : List RouteKey) → IsAbsent k ks → is_at (key_cmp k) x ≡ false → IsAbsent k (ks ++ x ∷ [])
absent_push k x [] absent apart = either_false _ _ apart refl
absent_push k x (y ∷ ks) absent apart = either_false _ _ (absent_head k y ks absent) (absent_push k x ks (absent_tail k y ks absent) apart)

absent_take : (k : RouteKey) (n : ℕ) (ks : List RouteKey) → IsAbsent k ks → IsAbsent k (take n ks)
absent_take k zero ks absent = refl
absent_take k (suc n) [] absent = refl
absent_take k (suc n) (x ∷ ks) absent = either_false _ _ (absent_head k x ks absent) (absent_take k n ks (absent_tail k x ks absent))

pub distinct_push : (x : RouteKey) (ks : List RouteKey) → AreDistinct ks → IsAbsent x ks → AreDistinct (ks ++ x ∷ [])
unfolding IsDistinct
distinct_push x [] distinct absent = (tt, tt)
distinct_push x (y ∷ ks) distinct absent = (apart ks distinct.0, distinct_push x ks distinct.1 (absent_tail x y ks absent))
  where
    apart : (zs : List RouteKey) → AllByRecursion (λ z. eq_by_cmp key_cmp y z ≡ false) zs → AllByRecursion (λ z. eq_by_cmp key_cmp y z ≡ false) (zs ++ x ∷ [])
    apart [] all = (is_at-sym key_total y x ∙ absent_head x y ks absent, tt)
    apart (z ∷ zs) all = (all.0, apart zs all.1)

-- ---- places

key_at : (k : RouteKey) (ws : Words) (i : ℕ) (x : RouteKey × Option Kept) → IsPlace (keys_of ws) k i → (get_or ws i x).0 ≡ k
key_at k ws i x place = let key : RouteKey × Option Kept → RouteKey = λ w. w.0 in sym (get_or-map key ws i x) ∙ place.at_key x.0

-- the key of the row that was read at its place
pub key-read : (k : RouteKey) (ws : Words) (i : ℕ) (x : RouteKey × Option Kept) → IsPlace (keys_of ws) k i → x ≡ get_or ws i x → x.0 ≡ k
key-read k ws i x place at = ap (λ (w : RouteKey × Option Kept). w.0) at ∙ key_at k ws i x place

pub inside_of : (k : RouteKey) (ws : Words) (i : ℕ) → IsPlace (keys_of ws) k i → i < length ws
inside_of k ws i place = subst (λ n. i < n) (length-keys_of ws) place.inside

pub place-read : (ws : Words) (k : RouteKey) (i : ℕ) (x : RouteKey × Option Kept) → i < length ws → is_eq (key_cmp (get_or ws i x).0 k) ≡ true → IsPlace (keys_of ws) k i
place-read ws k i x inside same =
    let long : i < length (keys_of ws) = subst (λ n. i < n) (sym (length-keys_of ws)) inside in
    let key : RouteKey × Option Kept → RouteKey = λ w. w.0 in
    record {
      inside = long;
      at_key = λ d. get_or_default (keys_of ws) i d x.0 long ∙ get_or-map key ws i x ∙ key_exact (get_or ws i x).0 k (equal_of (key_cmp (get_or ws i x).0 k) same);
    }

pub place-same : (ws : Words) (k : RouteKey) (i : ℕ) (x : RouteKey × Option Kept) → IsPlace (keys_of ws) k i → is_eq (key_cmp (get_or ws i x).0 k) ≡ true
place-same ws k i x place = ap is_eq (ap (λ y. key_cmp y k) (key_at k ws i x place) ∙ tied_itself key_total k)

place_push : (k x : RouteKey) (ks : List RouteKey) (i : ℕ) → IsPlace ks k i → IsPlace (ks ++ x ∷ []) k i
place_push k x ks i place = record {
  inside = omega (arith, place.inside, length-append ks (x ∷ []));
  at_key = λ d. get_or-append ks (x ∷ []) d i place.inside ∙ place.at_key d;
}

place_last : (x : RouteKey) (ks : List RouteKey) → IsPlace (ks ++ x ∷ []) x (length ks)
place_last x ks = record {
  inside = omega (arith, length-append ks (x ∷ []));
  at_key = λ d. get_or-append_seam ks x [] d;
}

place_in_front : (k : RouteKey) (ks : List RouteKey) (n i : ℕ) → n ≤ length ks → IsPlace (take n ks) k i → IsPlace ks k i
place_in_front k ks n i le place =
    let long : length (take n ks) ≡ n = length-take-le n ks le in
    record {
      inside = omega (arith, place.inside, long, le);
      at_key = λ d. get_or_in_front ks n i d (omega (arith, place.inside, long)) ∙ place.at_key d;
    }
  where
    get_or_in_front : (xs : List RouteKey) (m j : ℕ) (d : RouteKey) → j < m → get_or xs j d ≡ get_or (take m xs) j d
    get_or_in_front [] zero j d lt = refl
    get_or_in_front [] (suc m) j d lt = refl
    get_or_in_front (x ∷ xs) zero j d lt = absurd (omega (arith, lt))
    get_or_in_front (x ∷ xs) (suc m) zero d lt = refl
    get_or_in_front (x ∷ xs) (suc m) (suc j) d lt = get_or_in_front xs m j d (omega (arith, lt))

-- ---- where a search ends

keys_take : (n : ℕ) (ws : Words) → keys_of (take n ws) ≡ take n (keys_of ws)
keys_take n ws = sym (take-map (λ (w : RouteKey × Option Kept). w.0) n ws)

-- in the rows in front
pub place-searched : (ws : Words) (k : RouteKey) (i n : ℕ) → n ≤ length (keys_of ws) → IsSearchInRange (Ok i) (length (take n ws))
    → IsBinarySearchResult (λ word. key_cmp word.0 k) (take n ws) (Ok i) → IsPlace (keys_of ws) k i
place-searched ws k i n le inside at =
    let front = subst (λ ks. IsPlace ks k i) (keys_take n ws) (record {
      inside = subst (λ m. i < m) (sym (length-keys_of (take n ws))) inside;
      at_key = λ d. get_or_default (keys_of (take n ws)) i d d (subst (λ m. i < m) (sym (length-keys_of (take n ws))) inside)
          ∙ (let x : RouteKey × Option Kept = (d, None) in let key : RouteKey × Option Kept → RouteKey = λ w. w.0 in get_or-map key (take n ws) i x ∙ key_exact (get_or (take n ws) i x).0 k (at x));
    }) in
    place_in_front k (keys_of ws) n i le front

-- behind them
pub absent-searched : (ws : Words) (k : RouteKey) (i : ℕ) → IsRising ws → IsBinarySearchResult (λ word. key_cmp word.0 k) ws (Err i) → IsAbsent k (keys_of ws)
absent-searched ws k i rising point = absent_of k ws (none (found k ws) refl)
  where
    none : (o : Option (Option Kept)) → found k ws ≡ o → found k ws ≡ None
    none None is = is
    none (Some o) is =
        let order = searchable key_total (λ k. k) (λ k l less. less_not_greater _ less) ws k rising in
        let there : Contains ws (k, o) = Contains-from_lookup (λ x y e. key_exact x y (equal_of (key_cmp x y) e)) k o ws is in
        absurd (missed (λ (word : RouteKey × Option Kept). key_cmp word.0 k) ws i (point order) (k, o) there (tied_itself key_total k))

-- a key that is found has a place
place_of : (k : RouteKey) (ws : Words) (v : Option Kept) → found k ws ≡ Some v → (i : ℕ) × IsPlace (keys_of ws) k i
place_of k [] v is = absurd cc
place_of k (w ∷ ws) v is = by (place_of k ws v) (is_at (key_cmp k) w.0) refl is
  where
    by : (found k ws ≡ Some v → (i : ℕ) × IsPlace (keys_of ws) k i) → (b : Bool) → is_at (key_cmp k) w.0 ≡ b → cond b (Some w.1) (found k ws) ≡ Some v → (i : ℕ) × IsPlace (keys_of (w ∷ ws)) k i
    by again true at is = (0, record { inside = omega arith; at_key = λ d. same_key k w.0 at })
    by again false at is = let rest = again is in (suc rest.0, record { inside = omega (arith, rest.1.inside); at_key = λ d. rest.1.at_key d })

-- a key that is not in front has no place there
not_in_front : (k : RouteKey) (ks : List RouteKey) (n i : ℕ) → IsAbsent k (take n ks) → IsPlace ks k i → i < n → ⊥
not_in_front k [] n i absent place lt = omega (arith, place.inside)
not_in_front k (x ∷ ks) zero i absent place lt = omega (arith, lt)
not_in_front k (x ∷ ks) (suc n) zero absent place lt =
    let no : is_at (key_cmp k) k ≡ false = ap (is_at (key_cmp k)) (sym (place.at_key x)) ∙ absent_head k x (take n ks) absent in
    let yes : is_at (key_cmp k) k ≡ true = at_itself k in
    absurd cc
not_in_front k (x ∷ ks) (suc n) (suc i) absent place lt =
    not_in_front k ks n i (absent_tail k x (take n ks) absent) (record { inside = omega (arith, place.inside); at_key = λ d. place.at_key d }) (omega (arith, lt))

absent-behind : (ws : Words) (k : RouteKey) (rising : ℕ) (places : Places) (o : Option ℕ) → AreIndexed (keys_of ws) rising places → IsAbsent k (keys_of (take rising ws))
    → MatchOption o (IsUnlisted (keys_of ws) places k) (IsPlace (keys_of ws) k) → MatchOption o (found k ws ≡ None) (IsPlace (keys_of ws) k)
absent-behind ws k rising places (Some j) indexed not_here place = place
absent-behind ws k rising places None indexed not_here unlisted = none (found k ws) refl
  where
    absent : IsAbsent k (take rising (keys_of ws))
    absent = subst (λ t. IsAbsent k t) (keys_take rising ws) not_here

    none : (o : Option (Option Kept)) → found k ws ≡ o → found k ws ≡ None
    none None is = is
    none (Some v) is =
        let at = place_of k ws v is in
        absurd (elim (cases_lt at.0 rising) [
          | inl lt ↦ not_in_front k (keys_of ws) rising at.0 absent at.1 lt
          | inr le ↦ unlisted at.0 at.1 (indexed.behind k at.0 le at.1)
        ])

-- the rows in front rise
pub front-rising : (ws : Words) (rising : ℕ) (places : Places) → AreIndexed (keys_of ws) rising places → IsRising (take rising ws)
front-rising ws rising places indexed = subst (λ t. IsStrictlySortedBy key_cmp t) (sym (keys_take rising ws)) indexed.front

pub whole-rising : (ws : Words) (rising : ℕ) (places : Places) → AreIndexed (keys_of ws) rising places → rising ≡ length ws → IsRising ws
whole-rising ws rising places indexed whole = subst (λ t. IsRising t) (take_all rising ws (omega (arith, whole))) (front-rising ws rising places indexed)

-- a key that a search misses in front, or that is greater than all there, is where it is listed
pub searched-behind : (ws : Words) (k : RouteKey) (rising : ℕ) (places : Places) (i : ℕ) (o : Option ℕ) → AreIndexed (keys_of ws) rising places
    → IsBinarySearchResult (λ word. key_cmp word.0 k) (take rising ws) (Err i)
    → MatchOption o (IsUnlisted (keys_of ws) places k) (IsPlace (keys_of ws) k) → MatchOption o (found k ws ≡ None) (IsPlace (keys_of ws) k)
searched-behind ws k rising places i o indexed point found_there =
    absent-behind ws k rising places o indexed (absent-searched (take rising ws) k i (front-rising ws rising places indexed) point) found_there

none-above : {X : Type 0} (k : RouteKey) (es : List (RouteKey × X)) → AreAbove k es → found k es ≡ None
none-above k [] above = refl
none-above {X} k (e ∷ es) above =
    let back : key_cmp k e.0 ≡ Greater = key_total.antisymm k e.0 ∙ ap ordering_reverse above.0 in
    rw back (none-above k es above.1)

pub above-behind : (ws : Words) (k : RouteKey) (rising : ℕ) (places : Places) (o : Option ℕ) → AreIndexed (keys_of ws) rising places → AreAbove k (take rising ws)
    → MatchOption o (IsUnlisted (keys_of ws) places k) (IsPlace (keys_of ws) k) → MatchOption o (found k ws ≡ None) (IsPlace (keys_of ws) k)
above-behind ws k rising places o indexed above found_there =
    absent-behind ws k rising places o indexed (absent_of k (take rising ws) (none-above k (take rising ws) above)) found_there

-- ---- what is said

pub sorted-say : (k : RouteKey) (o : Option Kept) (es : List (RouteKey × Kept)) → IsRising es → IsRising (say k o es)
sorted-say k (Some v) es rising = sorted-insert key_total k v es rising
sorted-say k None es rising = sorted-remove key_total (is_at (key_cmp k)) es rising

pub sorted-standing : (ws : Words) → IsRising (standing ws)
unfolding IsStrictlySortedBy
sorted-standing [] = tt
sorted-standing (w ∷ ws) = sorted-say w.0 w.1 (standing ws) (sorted-standing ws)

pub found-say : (q k : RouteKey) (o : Option Kept) (es : List (RouteKey × Kept)) → IsRising es → found q (say k o es) ≡ cond (is_at (key_cmp k) q) o (found q es)
found-say q k (Some v) es rising = lookup-insert key_total q k v es
found-say q k None es rising = lookup-remove key_total q k es rising

-- the word of a key, if it has one
abbrev pub word_of : Option (Option Kept) → Option Kept
word_of (Some o) = o
word_of None = None

pub found-standing : (q : RouteKey) (ws : Words) → found q (standing ws) ≡ word_of (found q ws)
found-standing q [] = refl
found-standing q (w ∷ ws) = found-say q w.0 w.1 (standing ws) (sorted-standing ws) ∙ (rw (is_at-sym key_total w.0 q) (by (is_at (key_cmp q) w.0) (found-standing q ws)))
  where
    by : (b : Bool) → found q (standing ws) ≡ word_of (found q ws) → cond b w.1 (found q (standing ws)) ≡ word_of (cond b (Some w.1) (found q ws))
    by true again = refl
    by false again = again

-- words of which each key has the same say the same
same_standing : (vs ws : Words) → ((q : RouteKey) → word_of (found q vs) ≡ word_of (found q ws)) → standing vs ≡ standing ws
same_standing vs ws same = same_entries (standing vs) (standing ws) (sorted-standing vs) (sorted-standing ws) (λ q. found-standing q vs ∙ same q ∙ sym (found-standing q ws))

-- one more word
standing-one : (vs ws : Words) (k : RouteKey) (o : Option Kept) → ((q : RouteKey) → found q vs ≡ cond (is_at (key_cmp k) q) (Some o) (found q ws)) → standing vs ≡ say k o (standing ws)
standing-one vs ws k o same =
    same_entries (standing vs) (say k o (standing ws)) (sorted-standing vs) (sorted-say k o (standing ws) (sorted-standing ws))
    (λ q. found-standing q vs
    ∙ ap word_of (same q)
    ∙ by (is_at (key_cmp k) q) (found q ws)
    ∙ sym (ap (λ t. cond (is_at (key_cmp k) q) o t) (found-standing q ws))
    ∙ sym (found-say q k o (standing ws) (sorted-standing ws)))
  where
    by : (b : Bool) (x : Option (Option Kept)) → word_of (cond b (Some o) x) ≡ cond b o (word_of x)
    by true x = refl
    by false x = refl

-- ---- how many

pub length-said : (k : RouteKey) (v : Kept) (es : List (RouteKey × Kept)) → IsRising es → length (say k (Some v) es) ≡ length es + cond (is_some (found k es)) 0 1
unfolding IsStrictlySortedBy
length-said k v [] rising = refl
length-said k v (e ∷ es) rising = by (length-said k v es rising.1) (key_cmp k e.0) refl
  where
    by : length (insert_entry key_cmp es k v) ≡ length es + cond (is_some (found k es)) 0 1 → (r : Ordering) → key_cmp k e.0 ≡ r
        → length (match_ordering r ((k, v) ∷ e ∷ es) ((e.0, v) ∷ es) (e ∷ insert_entry key_cmp es k v)) ≡ suc (length es) + cond (is_some (cond (is_eq r) (Some e.1) (found k es))) 0 1
    by again Less is = let none : found k es ≡ None = miss_below key_total k es (below_all key_total k e.0 (keys_of es) is rising.0) in rw none (omega arith)
    by again Equal is = omega arith
    by again Greater is = omega (arith, again)

pub length-unsaid : (k : RouteKey) (es : List (RouteKey × Kept)) → length (say k None es) + cond (is_some (found k es)) 1 0 ≡ length es
length-unsaid k [] = refl
length-unsaid k (e ∷ es) = by (length-unsaid k es) (is_at (key_cmp k) e.0)
  where
    by : length (remove_entry (is_at (key_cmp k)) es) + cond (is_some (found k es)) 1 0 ≡ length es → (b : Bool)
        → length (cond b es (e ∷ remove_entry (is_at (key_cmp k)) es)) + cond (is_some (cond b (Some e.1) (found k es))) 1 0 ≡ suc (length es)
    by again true = omega arith
    by again false = omega (arith, again)

-- ---- a word in its place

-- a key is at its place alone
apart_place : (k : RouteKey) (w : RouteKey × Option Kept) (ws : Words) (i : ℕ) (d : RouteKey × Option Kept) → AreDistinct (keys_of (w ∷ ws))
    → i < length ws → (get_or ws i d).0 ≡ k → is_at (key_cmp k) w.0 ≡ false
apart_place k w ws i d distinct inside at =
    let key : RouteKey × Option Kept → RouteKey = λ v. v.0 in
    let here : get_or (keys_of ws) i d.0 ≡ k = get_or-map key ws i d ∙ at in
    let long : i < length (keys_of ws) = subst (λ n. i < n) (sym (length-keys_of ws)) inside in
    let apart : eq_by_cmp key_cmp w.0 (get_or (keys_of ws) i d.0) ≡ false = apart_from_distinct (eq_by_cmp key_cmp) (keys_of (w ∷ ws)) 0 (suc i) d.0 distinct (omega arith) (omega (arith, long)) in
    is_at-sym key_total k w.0 ∙ subst (λ y. is_at (key_cmp w.0) y ≡ false) here apart

found-place : (k : RouteKey) (ws : Words) (i : ℕ) (d : RouteKey × Option Kept) → AreDistinct (keys_of ws) → i < length ws → (get_or ws i d).0 ≡ k → found k ws ≡ Some (get_or ws i d).1
unfolding IsDistinct
found-place k [] i d distinct inside at = absurd (omega (arith, inside))
found-place k (w ∷ ws) zero d distinct inside at = rw (at, at_itself k) refl
found-place k (w ∷ ws) (suc i) d distinct inside at =
    let later = found-place k ws i d distinct.1 (omega (arith, inside)) at in
    rw (apart_place k w ws i d distinct (omega (arith, inside)) at) later

found-set : (k q : RouteKey) (o : Option Kept) (ws : Words) (i : ℕ) (d : RouteKey × Option Kept) → AreDistinct (keys_of ws) → i < length ws → (get_or ws i d).0 ≡ k
    → found q (set ws i (k, o)) ≡ cond (is_at (key_cmp k) q) (Some o) (found q ws)
unfolding IsDistinct
found-set k q o [] i d distinct inside at = absurd (omega (arith, inside))
found-set k q o (w ∷ ws) zero d distinct inside at = rw (at, is_at-sym key_total k q) (by (is_at (key_cmp q) k))
  where
    by : (b : Bool) → cond b (Some o) (found q ws) ≡ cond b (Some o) (cond b (Some w.1) (found q ws))
    by true = refl
    by false = refl
found-set k q o (w ∷ ws) (suc i) d distinct inside at =
    let apart = apart_place k w ws i d distinct (omega (arith, inside)) at in
    ap (λ t. cond (is_at (key_cmp q) w.0) (Some w.1) t) (found-set k q o ws i d distinct.1 (omega (arith, inside)) at)
    ∙ by (is_at (key_cmp q) w.0) (is_at (key_cmp k) q) refl refl apart
  where
    by : (a b : Bool) → is_at (key_cmp q) w.0 ≡ a → is_at (key_cmp k) q ≡ b → is_at (key_cmp k) w.0 ≡ false
        → cond a (Some w.1) (cond b (Some o) (found q ws)) ≡ cond b (Some o) (cond a (Some w.1) (found q ws))
    by true true x y apart =
        let same : is_at (key_cmp k) w.0 ≡ true = ap (λ z. is_at (key_cmp k) z) (same_key q w.0 x) ∙ y in
        absurd cc
    by true false x y apart = refl
    by false true x y apart = refl
    by false false x y apart = refl

keys-set : (k : RouteKey) (o : Option Kept) (ws : Words) (i : ℕ) (d : RouteKey × Option Kept) → (get_or ws i d).0 ≡ k → keys_of (set ws i (k, o)) ≡ keys_of ws
keys-set k o ws i d at = let key : RouteKey × Option Kept → RouteKey = λ w. w.0 in map-set_same key ws i (k, o) d (sym at)

module _ {X : Type 0} where
  below_at : (x : RouteKey) (es : List (RouteKey × X)) (i : ℕ) (d : RouteKey × X) → AreBelow x es → i < length es → key_cmp x (get_or es i d).0 ≡ Less
  below_at x [] i d below inside = absurd (omega (arith, inside))
  below_at x (e ∷ es) zero d below inside = below.0
  below_at x (e ∷ es) (suc i) d below inside = below_at x es i d below.1 (omega (arith, inside))

  pub above-last : (k : RouteKey) (es : List (RouteKey × X)) (i : ℕ) (d : RouteKey × X) → IsRising es → length es ≡ suc i → key_cmp (get_or es i d).0 k ≡ Less → AreAbove k es
  unfolding IsStrictlySortedBy
  above-last k [] i d rising len less = tt
  above-last k (e ∷ []) zero d rising len less = (less, tt)
  above-last k (e ∷ f ∷ es) zero d rising len less = absurd (omega (arith, len))
  above-last k (e ∷ es) (suc i) d rising len less =
      (key_total.trans e.0 (get_or es i d).0 k (below_at e.0 es i d rising.0 (omega (arith, len))) less, above-last k es i d rising.1 (omega (arith, len)) less)

  pub above-read : (k : RouteKey) (es : List (RouteKey × X)) (row : RouteKey × X) → IsRising es → Some row ≡ slice_get es (length es - 1) → is_lt (key_cmp row.0 k) ≡ true → AreAbove k es
  above-read k [] row rising read less = tt
  above-read k (e ∷ es) row rising read less =
      let at : length (e ∷ es) - 1 ≡ length es = omega arith in
      let is : get_or (e ∷ es) (length es) row ≡ row = get_or_from_slice_get (e ∷ es) (length es) row row (ap (slice_get (e ∷ es)) (sym at) ∙ sym read) in
      above-last k (e ∷ es) (length es) row rising refl (ap (λ (x : RouteKey × X). key_cmp x.0 k) is ∙ less_of (key_cmp row.0 k) less)

  above_at : (k : RouteKey) (es : List (RouteKey × X)) (i : ℕ) (d : RouteKey × X) → AreAbove k es → i < length es → key_cmp (get_or es i d).0 k ≡ Less
  above_at k [] i d above inside = absurd (omega (arith, inside))
  above_at k (e ∷ es) zero d above inside = above.0
  above_at k (e ∷ es) (suc i) d above inside = above_at k es i d above.1 (omega (arith, inside))

  pub above-last-read : (k : RouteKey) (es : List (RouteKey × X)) (row : RouteKey × X) → Some row ≡ slice_get es (length es - 1) → AreAbove k es → is_lt (key_cmp row.0 k) ≡ true
  above-last-read k [] row read above = absurd cc
  above-last-read k (e ∷ es) row read above =
      let at : length (e ∷ es) - 1 ≡ length es = omega arith in
      let is : get_or (e ∷ es) (length es) row ≡ row = get_or_from_slice_get (e ∷ es) (length es) row row (ap (slice_get (e ∷ es)) (sym at) ∙ sym read) in
      ap is_lt (ap (λ (x : RouteKey × X). key_cmp x.0 k) (sym is) ∙ above_at k (e ∷ es) (length es) row above (omega arith))

  pub pushed : (k : RouteKey) (o : X) (es : List (RouteKey × X)) → AreAbove k es → es ++ (k, o) ∷ [] ≡ insert_entry key_cmp es k o
  pushed k o [] above = refl
  pushed k o (e ∷ es) above =
      let back : key_cmp k e.0 ≡ Greater = key_total.antisymm k e.0 ∙ ap ordering_reverse above.0 in
      rw back (ap (λ (t : List (RouteKey × X)). e ∷ t) (pushed k o es above.1))

-- ---- a word behind the others

abbrev or_else : Option (Option Kept) → Option (Option Kept) → Option (Option Kept)
or_else (Some x) y = Some x
or_else None y = y

found-push : (k q : RouteKey) (o : Option Kept) (ws : Words) → found k ws ≡ None → found q (ws ++ (k, o) ∷ []) ≡ cond (is_at (key_cmp k) q) (Some o) (found q ws)
found-push k q o ws none = in_turn ws ∙ (rw (is_at-sym key_total q k) (by (is_at (key_cmp k) q) refl (found q ws) refl))
  where
    in_turn : (vs : Words) → found q (vs ++ (k, o) ∷ []) ≡ or_else (found q vs) (cond (is_at (key_cmp q) k) (Some o) None)
    in_turn [] = refl
    in_turn (v ∷ vs) = under (is_at (key_cmp q) v.0) _ _ _ (in_turn vs)
      where
        under : (b : Bool) (x y z : Option (Option Kept)) → x ≡ or_else y z → cond b (Some v.1) x ≡ or_else (cond b (Some v.1) y) z
        under true x y z e = refl
        under false x y z e = e

    by : (b : Bool) → is_at (key_cmp k) q ≡ b → (x : Option (Option Kept)) → found q ws ≡ x → or_else x (cond b (Some o) None) ≡ cond b (Some o) x
    by b at None is = refl
    by true at (Some v) is = let no : found q ws ≡ None = ap (λ y. found y ws) (same_key k q at) ∙ none in absurd cc
    by false at (Some v) is = refl

keys-push : (k : RouteKey) (o : Option Kept) (ws : Words) → keys_of (ws ++ (k, o) ∷ []) ≡ keys_of ws ++ k ∷ []
keys-push k o [] = refl
keys-push k o (w ∷ ws) = ap (λ (t : List RouteKey). w.0 ∷ t) (keys-push k o ws)

-- ---- the order of keys

rising-push : (k : RouteKey) (o : Option Kept) (ws : Words) → AreAbove k ws → IsRising ws → IsRising (ws ++ (k, o) ∷ [])
rising-push k o ws above rising = subst (λ t. IsRising t) (sym (pushed k o ws above)) (sorted-insert key_total k o ws rising)

-- numbers of rows that rise: no row is less than the one before, and none is its equal
rising-sorted : {X : Type 0} (ws : List (RouteKey × X)) → IsSortedBy (λ x y. is_lt (key_cmp x.0 y.0)) ws → AreDistinct (keys_of ws) → IsRising ws
unfolding IsStrictlySortedBy IsDistinct
rising-sorted [] sorted distinct = tt
rising-sorted (w ∷ []) sorted distinct = (tt, tt)
rising-sorted (w ∷ v ∷ ws) sorted distinct =
    let rest : IsRising (v ∷ ws) = rising-sorted (v ∷ ws) later distinct.1 in
    let less : key_cmp w.0 v.0 ≡ Less = by (key_cmp w.0 v.0) (sym (is_at_lt w.0 v.0) ∙ sorted 0 w (omega arith) (omega arith)) distinct.0.0 in
    ((less, below_all key_total w.0 v.0 (keys_of ws) less rest.0), rest)
  where
    later : IsSortedBy (λ x y. is_lt (key_cmp x.0 y.0)) (v ∷ ws)
    later i d from to =
        let e : suc i + 1 ≡ suc (i + 1) = omega arith in
        subst (λ n. is_lt (key_cmp (get_or (w ∷ v ∷ ws) n d).0 (get_or (v ∷ ws) i d).0) ≡ false) e (sorted (suc i) d (omega arith) (omega (arith, to)))

    is_at_lt : (k l : RouteKey) → is_lt (key_cmp l k) ≡ is_lt (ordering_reverse (key_cmp k l))
    is_at_lt k l = ap is_lt (key_total.antisymm l k)

    by : (r : Ordering) → is_lt (ordering_reverse r) ≡ false → is_eq r ≡ false → r ≡ Less
    by Less not_greater not_equal = refl
    by Equal not_greater not_equal = absurd cc
    by Greater not_greater not_equal = absurd cc

-- the order of keys, as a test of rows
chained : (x y z : RouteKey) (r s : Ordering) → key_cmp x y ≡ r → key_cmp y z ≡ s → is_lt r ≡ false → is_lt s ≡ false → is_lt (key_cmp x z) ≡ false
chained x y z Less s p q a b = absurd cc
chained x y z Equal s p q a b = let e : x ≡ y = key_exact x y p in ap is_lt (ap (λ (k : RouteKey). key_cmp k z) e ∙ q) ∙ b
chained x y z Greater Less p q a b = absurd cc
chained x y z Greater Equal p q a b = let e : y ≡ z = key_exact y z q in ap is_lt (ap (λ (k : RouteKey). key_cmp x k) (sym e) ∙ p)
chained x y z Greater Greater p q a b =
    let zy : key_cmp z y ≡ Less = key_total.antisymm z y ∙ ap ordering_reverse q in
    let yx : key_cmp y x ≡ Less = key_total.antisymm y x ∙ ap ordering_reverse p in
    ap is_lt (key_total.antisymm x z ∙ ap ordering_reverse (key_total.trans z y x zy yx))

one_way : (r : Ordering) → is_lt r ≡ true → is_lt (ordering_reverse r) ≡ false
one_way Less less = refl
one_way Equal less = absurd cc
one_way Greater less = absurd cc

pub words_weak : {X : Type 0} → IsStrictWeakOrder (λ (x y : RouteKey × X). is_lt (key_cmp x.0 y.0))
words_weak = record {
  one_way = λ x y less. ap is_lt (key_total.antisymm y.0 x.0) ∙ one_way (key_cmp x.0 y.0) less;
  chain = λ x y z a b. chained x.0 y.0 z.0 (key_cmp x.0 y.0) (key_cmp y.0 z.0) refl refl a b;
}

found-permuted : {X : Type 0} (vs ws : List (RouteKey × X)) (q : RouteKey) (o : X) → IsPermutation ws vs → AreDistinct (keys_of vs) → found q ws ≡ Some o → found q vs ≡ Some o
found-permuted vs ws q o permuted distinct is =
    let there : Contains ws (q, o) = Contains-from_lookup (λ x y e. key_exact x y (equal_of (key_cmp x y) e)) q o ws is in
    lookup-from_Contains (eq_by_cmp_equiv key_total) q o vs distinct (Contains-permutation ws vs (q, o) permuted there)

distinct-permuted : {X : Type 0} (vs ws : List (RouteKey × X)) → IsPermutation ws vs → AreDistinct (keys_of ws) → AreDistinct (keys_of vs)
distinct-permuted {X} vs ws permuted distinct =
    IsDistinct-IsPermutation (eq_by_cmp key_cmp) (λ x y. is_at-sym key_total x y) (keys_of ws) (keys_of vs) (IsPermutation-map (λ (w : RouteKey × X). w.0) ws vs permuted) distinct

pub found-same : {X : Type 0} (vs ws : List (RouteKey × X)) (q : RouteKey) → IsPermutation ws vs → AreDistinct (keys_of ws) → found q vs ≡ found q ws
found-same {X} vs ws q permuted distinct = by (found q ws) refl (found q vs) refl
  where
    by : (x : Option X) → found q ws ≡ x → (y : Option X) → found q vs ≡ y → found q vs ≡ found q ws
    by (Some o) is y same = found-permuted vs ws q o permuted (distinct-permuted vs ws permuted distinct) is ∙ sym is
    by None is None same = same ∙ sym is
    by None is (Some o) same = let no = found-permuted ws vs q o (IsPermutation-sym ws vs permuted) distinct same in absurd cc

pub standing-permuted : (vs ws : Words) → IsPermutation ws vs → AreDistinct (keys_of ws) → standing vs ≡ standing ws
standing-permuted vs ws permuted distinct = same_standing vs ws (λ q. ap word_of (found-same vs ws q permuted distinct))

pub rising-permuted : {X : Type 0} (vs ws : List (RouteKey × X)) → IsPermutation ws vs → AreDistinct (keys_of ws) → IsSortedBy (λ x y. is_lt (key_cmp x.0 y.0)) vs → IsRising vs
rising-permuted vs ws permuted distinct sorted = rising-sorted vs sorted (distinct-permuted vs ws permuted distinct)

-- ---- the words of what is not retracted

abbrev pub is_said : RouteKey × Option Kept → Bool
is_said word = is_some word.1

apart-filter : (k : RouteKey) (ws : Words) → AllByRecursion (λ y. eq_by_cmp key_cmp k y ≡ false) (keys_of ws) → AllByRecursion (λ y. eq_by_cmp key_cmp k y ≡ false) (keys_of (filter is_said ws))
apart-filter k [] apart = tt
apart-filter k (w ∷ ws) apart = by (is_said w) (apart-filter k ws apart.1)
  where
    by : (b : Bool) → AllByRecursion (λ y. eq_by_cmp key_cmp k y ≡ false) (keys_of (filter is_said ws))
        → AllByRecursion (λ y. eq_by_cmp key_cmp k y ≡ false) (keys_of (cond b (w ∷ filter is_said ws) (filter is_said ws)))
    by true again = (apart.0, again)
    by false again = again

pub distinct-filter : (ws : Words) → AreDistinct (keys_of ws) → AreDistinct (keys_of (filter is_said ws))
unfolding IsDistinct
distinct-filter [] distinct = tt
distinct-filter (w ∷ ws) distinct = by (is_said w) (distinct-filter ws distinct.1)
  where
    by : (b : Bool) → AreDistinct (keys_of (filter is_said ws)) → AreDistinct (keys_of (cond b (w ∷ filter is_said ws) (filter is_said ws)))
    by true again = (apart-filter w.0 ws distinct.0, again)
    by false again = again

pub standing-filter : (ws : Words) → AreDistinct (keys_of ws) → standing (filter is_said ws) ≡ standing ws
standing-filter ws distinct = same_standing (filter is_said ws) ws (λ q. ap word_of (lookup-filter-values (eq_by_cmp_equiv key_total) is_some q ws distinct) ∙ by (found q ws))
  where
    by : (x : Option (Option Kept)) → word_of (option_filter is_some x) ≡ word_of x
    by None = refl
    by (Some None) = refl
    by (Some (Some v)) = refl

-- ---- the index

indexed-nothing : (places : Places) → AreIndexed [] 0 places
unfolding IsStrictlySortedBy IsDistinct
indexed-nothing places = record { distinct = tt; inside = omega arith; front = tt; behind = λ key place first at. absurd (omega (arith, at.inside)) }

-- all keys in front
indexed-rising : (ks : List RouteKey) (places : Places) → AreDistinct ks → IsStrictlySortedBy key_cmp ks → AreIndexed ks (length ks) places
indexed-rising ks places distinct rising = record {
  distinct = distinct;
  inside = omega arith;
  front = subst (λ t. IsStrictlySortedBy key_cmp t) (sym (take_all (length ks) ks (omega arith))) rising;
  behind = λ key place first at. absurd (omega (arith, first, at.inside));
}

-- one more in front
indexed-front : (ks : List RouteKey) (places : Places) (k : RouteKey) → AreIndexed ks (length ks) places → IsAbsent k ks
    → IsStrictlySortedBy key_cmp (ks ++ k ∷ []) → AreIndexed (ks ++ k ∷ []) (length ks + 1) places
indexed-front ks places k indexed absent rising =
    let more : length (ks ++ k ∷ []) ≡ length ks + 1 = length-append ks (k ∷ []) in
    let all : take (length ks + 1) (ks ++ k ∷ []) ≡ ks ++ k ∷ [] = take_all (length ks + 1) (ks ++ k ∷ []) (omega (arith, more)) in
    record {
      distinct = distinct_push k ks indexed.distinct absent;
      inside = omega (arith, more);
      front = subst (λ t. IsStrictlySortedBy key_cmp t) (sym all) rising;
      behind = λ key place first at. absurd (omega (arith, first, at.inside, more));
    }

-- a key that has a place is not one that is absent
pub apart_from_absent : (k q : RouteKey) (ks : List RouteKey) (i : ℕ) → IsAbsent k ks → IsPlace ks q i → is_at (key_cmp k) q ≡ false
apart_from_absent k q ks i absent place = by (is_at (key_cmp k) q) refl
  where
    by : (b : Bool) → is_at (key_cmp k) q ≡ b → is_at (key_cmp k) q ≡ false
    by false at = at
    by true at =
        let same : q ≡ k = same_key k q at in
        absurd (not_in_front k ks (length ks) i (subst (λ t. IsAbsent k t) (sym (take_all (length ks) ks (omega arith))) absent) (subst (λ y. IsPlace ks y i) same place) place.inside)

-- a place among one key more
place_before : (k x : RouteKey) (ks : List RouteKey) (i : ℕ) → i < length ks → IsPlace (ks ++ x ∷ []) k i → IsPlace ks k i
place_before k x ks i lt place = record { inside = lt; at_key = λ d. sym (get_or-append ks (x ∷ []) d i lt) ∙ place.at_key d }

-- one more behind
pub indexed-behind : (ws : Words) (rising : ℕ) (old new : Places) (k : RouteKey) (v : Kept) → AreIndexed (keys_of ws) rising old → found k ws ≡ None → IsListed new k (length ws)
    → ((other : RouteKey) (at : ℕ) → is_at (key_cmp k) other ≡ false → IsListed old other at → IsListed new other at)
    → AreIndexed (keys_of (ws ++ (k, Some v) ∷ [])) rising new
indexed-behind ws rising old new k v indexed none one others =
    let ks : List RouteKey = keys_of ws in
    let absent : IsAbsent k ks = absent_of k ws none in
    let len : length ks ≡ length ws = length-keys_of ws in
    let more : length (ks ++ k ∷ []) ≡ length ks + 1 = length-append ks (k ∷ []) in
    let same : take rising (ks ++ k ∷ []) ≡ take rising ks = take-append-le rising ks (k ∷ []) indexed.inside in
    subst (λ t. AreIndexed t rising new) (sym (keys-push k (Some v) ws)) (record {
      distinct = distinct_push k ks indexed.distinct absent;
      inside = omega (arith, indexed.inside, more);
      front = subst (λ t. IsStrictlySortedBy key_cmp t) (sym same) indexed.front;
      behind = λ key place first at. elim (cases_lt place (length ks)) [
        | inl lt ↦
            let here : IsPlace ks key place = place_before key k ks place lt at in
            others key place (apart_from_absent k key ks place absent here) (indexed.behind key place first here)
        | inr le ↦
            let is : place ≡ length ws = omega (arith, le, at.inside, more, len) in
            let key_is : key ≡ k = sym (at.at_key k) ∙ ap (λ n. get_or (ks ++ k ∷ []) n k) (is ∙ sym len) ∙ get_or-append_seam ks k [] k in
            subst (λ q. IsListed new q place) (sym key_is) (subst (λ n. IsListed new k n) (sym is) one)
      ];
    })

pub listed_besides : (ws : Words) (rising : ℕ) (old new : Places) (k : RouteKey) → found k ws ≡ None → AreListed (keys_of ws) rising old
    → ((other : RouteKey) (at : ℕ) → is_at (key_cmp k) other ≡ false → IsListed old other at → IsListed new other at) → AreListed (keys_of ws) rising new
listed_besides ws rising old new k none all others key place first at = others key place (apart_from_absent k key (keys_of ws) place (absent_of k ws none) at) (all key place first at)

pub on_err : {T E : Type 0} (r : Result T E) (P : Type 0) → P → OnErr r P
on_err (Ok x) P p = tt
on_err (Err e) P p = p

pub still_indexed : (ks : List RouteKey) (rising : ℕ) (old new : Places) → AreIndexed ks rising old → AreListed ks rising new → AreIndexed ks rising new
still_indexed ks rising old new indexed all = record { distinct = indexed.distinct; inside = indexed.inside; front = indexed.front; behind = all }

-- ---- the count

byte_of : (b : Bool) → bool_byte b ≡ cond b 1 0
byte_of true = refl
byte_of false = refl

byte_of_not : (b : Bool) → bool_byte (not b) ≡ cond b 0 1
byte_of_not true = refl
byte_of_not false = refl

byte_of_none : (o : Option Kept) → bool_byte (is_none o) ≡ cond (is_some o) 0 1
byte_of_none None = refl
byte_of_none (Some v) = refl

at_most_one : (b : Bool) → cond b 0 1 < 2
at_most_one true = omega arith
at_most_one false = omega arith

module _ (n : ℕ) (ws : Words) (rising : ℕ) (places : Places) (all : AreCounted n ws rising places) (k : RouteKey) where
  said-count : (v : Kept) (m : ℕ) → m ≡ cond (is_some (found k (standing ws))) 0 1 → n + m ≡ length (say k (Some v) (standing ws))
  said-count v m one = let len = length-said k v (standing ws) (sorted-standing ws) in omega (arith, len, one, all.count)

  unsaid-count : (m : ℕ) → m ≡ cond (is_some (found k (standing ws))) 1 0 → length (say k None (standing ws)) + m ≡ n
  unsaid-count m one = let len = length-unsaid k (standing ws) in omega (arith, len, one, all.count)

  -- ---- at a place

  module _ (i : ℕ) (place : IsPlace (keys_of ws) k i) (x : RouteKey × Option Kept) where
    found-here : found k ws ≡ Some (get_or ws i x).1
    found-here = found-place k ws i x all.indexed.distinct (inside_of k ws i place) (key_at k ws i x place)

    pub stands-here : found k (standing ws) ≡ (get_or ws i x).1
    stands-here = found-standing k ws ∙ ap word_of found-here

    pub standing-set : (o : Option Kept) → standing (set ws i (k, o)) ≡ say k o (standing ws)
    standing-set o = standing-one (set ws i (k, o)) ws k o (λ q. found-set k q o ws i x all.indexed.distinct (inside_of k ws i place) (key_at k ws i x place))

    indexed-set : (o : Option Kept) → AreIndexed (keys_of (set ws i (k, o))) rising places
    indexed-set o = subst (λ ks. AreIndexed ks rising places) (sym (keys-set k o ws i x (key_at k ws i x place))) all.indexed

    here : (was : Bool) → x ≡ get_or ws i x → was ≡ is_some x.1 → is_some (found k (standing ws)) ≡ was
    here was at is = ap is_some stands-here ∙ sym (ap (λ (w : RouteKey × Option Kept). is_some w.1) at) ∙ sym is

    pub counted-set : (v : Kept) (was : Bool) (m : ℕ) → x ≡ get_or ws i x → was ≡ is_some x.1 → m ≡ bool_byte (not was) → n + 1 < 2 ^ 63 → AreCounted (n + m) (set ws i (k, Some v)) rising places
    counted-set v was m at is byte few =
        let one : m ≡ cond (is_some (found k (standing ws))) 0 1 = byte ∙ byte_of_not was ∙ sym (ap (λ b. cond b 0 1) (here was at is)) in
        record {
          indexed = indexed-set (Some v);
          count = said-count v m one ∙ sym (ap (λ (t : List (RouteKey × Kept)). length t) (standing-set (Some v)));
          small = omega (arith, one, few, at_most_one (is_some (found k (standing ws))));
        }

    one-unset : (was : Bool) (m : ℕ) → x ≡ get_or ws i x → was ≡ is_some x.1 → m ≡ bool_byte was → m ≡ cond (is_some (found k (standing ws))) 1 0
    one-unset was m at is byte = byte ∙ byte_of was ∙ sym (ap (λ b. cond b 1 0) (here was at is))

    pub fewer-set : (was : Bool) (m : ℕ) → x ≡ get_or ws i x → was ≡ is_some x.1 → m ≡ bool_byte was → m ≤ n
    fewer-set was m at is byte = let len = unsaid-count m (one-unset was m at is byte) in omega (arith, len)

    pub counted-unset : (was : Bool) (m : ℕ) → x ≡ get_or ws i x → was ≡ is_some x.1 → m ≡ bool_byte was → AreCounted (n - m) (set ws i (k, None)) rising places
    counted-unset was m at is byte =
        let len = unsaid-count m (one-unset was m at is byte) in
        let same : length (standing (set ws i (k, None))) ≡ length (say k None (standing ws)) = ap (λ (t : List (RouteKey × Kept)). length t) (standing-set None) in
        record {
          indexed = indexed-set None;
          count = omega (arith, len, same);
          small = omega (arith, all.small);
        }

  -- ---- of a key that has no place

  module _ (none : found k ws ≡ None) where
    pub stands-nowhere : found k (standing ws) ≡ None
    stands-nowhere = found-standing k ws ∙ ap word_of none

    pub standing-pushed : (v : Kept) → standing (ws ++ (k, Some v) ∷ []) ≡ insert_entry key_cmp (standing ws) k v
    standing-pushed v = standing-one (ws ++ (k, Some v) ∷ []) ws k (Some v) (λ q. found-push k q (Some v) ws none)

    counted-more : (v : Kept) (front : ℕ) (index : Places) → n + 1 < 2 ^ 63 → AreIndexed (keys_of (ws ++ (k, Some v) ∷ [])) front index → AreCounted (n + 1) (ws ++ (k, Some v) ∷ []) front index
    counted-more v front index few indexed = record {
      indexed = indexed;
      count = said-count v 1 (sym (ap (λ (t : Option Kept). cond (is_some t) 0 1) stands-nowhere)) ∙ sym (ap (λ (t : List (RouteKey × Kept)). length t) (standing-pushed v));
      small = few;
    }

    pub counted-behind : (v : Kept) (index : Places) → n + 1 < 2 ^ 63 → AreIndexed (keys_of (ws ++ (k, Some v) ∷ [])) rising index → AreCounted (n + 1) (ws ++ (k, Some v) ∷ []) rising index
    counted-behind v index few indexed = counted-more v rising index few indexed

    pub counted-front : (v : Kept) (m : ℕ) → m ≡ length (ws ++ (k, Some v) ∷ []) → n + 1 < 2 ^ 63 → rising ≡ length ws → AreAbove k ws → AreCounted (n + 1) (ws ++ (k, Some v) ∷ []) m places
    counted-front v m long few full above =
        let whole : AreIndexed (keys_of ws) (length (keys_of ws)) places = subst (λ m. AreIndexed (keys_of ws) m places) (full ∙ sym (length-keys_of ws)) all.indexed in
        let order : IsRising ws = whole-rising ws rising places all.indexed full in
        let longer : IsStrictlySortedBy key_cmp (keys_of ws ++ k ∷ []) = subst (λ t. IsStrictlySortedBy key_cmp t) (keys-push k (Some v) ws) (rising-push k (Some v) ws above order) in
        let more : length (keys_of ws) + 1 ≡ m = omega (arith, long, length-keys_of ws, length-append ws ((k, Some v) ∷ [])) in
        counted-more v m places few (subst (λ t. AreIndexed t m places) (sym (keys-push k (Some v) ws))
        (subst (λ t. AreIndexed (keys_of ws ++ k ∷ []) t places) more (indexed-front (keys_of ws) places k whole (absent_of k ws none) longer)))

pub counted-nothing : (places : Places) → AreCounted 0 [] 0 places
counted-nothing places = record { indexed = indexed-nothing places; count = refl; small = omega arith }

-- the same rows with other places
pub counted_again : (n : ℕ) (ws : Words) (rising : ℕ) (old new : Places) → AreCounted n ws rising old → AreIndexed (keys_of ws) rising new → AreCounted n ws rising new
counted_again n ws rising old new all indexed = record { indexed = indexed; count = all.count; small = all.small }

-- the rows that are not retracted, in order
pub counted-sorted : (n : ℕ) (ws vs : Words) (rising : ℕ) (places after : Places) → AreCounted n ws rising places → IsRising vs
    → standing vs ≡ standing (filter is_said ws) → AreCounted n vs (length vs) after
counted-sorted n ws vs rising places after all order same = record {
  indexed = subst (λ m. AreIndexed (keys_of vs) m after) (length-keys_of vs) (indexed-rising (keys_of vs) after (IsDistinct-from_sorted key_cmp (keys_of vs) order) order);
  count = all.count ∙ ap (λ (t : List (RouteKey × Kept)). length t) (sym (same ∙ standing-filter ws all.indexed.distinct));
  small = all.small;
}

-- nothing is retracted where nothing stands
pub unsaid-nothing : (k : RouteKey) (es : List (RouteKey × Kept)) → found k es ≡ None → remove_entry (is_at (key_cmp k)) es ≡ es
unsaid-nothing k [] none = refl
unsaid-nothing k (e ∷ es) none = by (is_at (key_cmp k) e.0) none (unsaid-nothing k es)
  where
    by : (b : Bool) → cond b (Some e.1) (found k es) ≡ None → (found k es ≡ None → remove_entry (is_at (key_cmp k)) es ≡ es) → cond b es (e ∷ remove_entry (is_at (key_cmp k)) es) ≡ e ∷ es
    by true none again = absurd cc
    by false none again = ap (λ (t : List (RouteKey × Kept)). e ∷ t) (again none)

pub byte_small : (b : Bool) (m : ℕ) → m ≡ bool_byte b → m < 2
byte_small true m is = omega (arith, is)
byte_small false m is = omega (arith, is)

pub one_more : (n : ℕ) (ws : Words) (rising : ℕ) (places : Places) (old : List (RouteKey × Kept)) → AreCounted n ws rising places → standing ws ≡ old → length old < 2 ^ 62 → n + 1 < 2 ^ 63
one_more n ws rising places old all is few =
    let len : n ≡ length old = all.count ∙ ap (λ (t : List (RouteKey × Kept)). length t) is in
    omega (arith, len, few)

pub said-length : (k : RouteKey) (v : Kept) (ws : Words) (old new : List (RouteKey × Kept)) → standing ws ≡ old → new ≡ insert_entry key_cmp old k v
    → length new ≡ length old + cond (is_some (found k old)) 0 1
said-length k v ws old new view is = ap (λ (t : List (RouteKey × Kept)). length t) is ∙ length-said k v old (subst (λ t. IsRising t) view (sorted-standing ws))

-- ---- the end of a list

pub no_more : {X : Type 0} (xs : List X) → length xs ≡ 0 → xs ≡ []
no_more [] none = refl
no_more (x ∷ xs) none = absurd (omega (arith, none))
