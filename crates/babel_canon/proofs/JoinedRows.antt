-- What two lists of rows hold for each key, joined, is what each of them holds for it.
use Rattle.std.proofs.Common.{◌≡◌, Bool, true, false, cond, List, [], ◌∷◌, map, Option, Some, None, refl, sym, ap, subst, ◌∙◌}
use Rattle.std.specs.List.{AllByRecursion, filter}
use Rattle.std.specs.List.Sorted.{IsStrictlySortedBy}
use Rattle.std.specs.Map.{keys_of, lookup}
use Rattle.std.specs.BTreeMap.{is_at}
use Rattle.std.specs.Option.{option_cmp}
use Rattle.std.specs.Ordering.{is_ne, ordering_reverse}
use Rattle.std.specs.declared.cmp.Ordering.{Ordering}
use Rattle.std.specs.declared.cmp.Ordering.TheVariants.{Less, Equal, Greater}
use Rattle.babel_prefix.proofs.Insertion.{equal_of, below_all}
use Rattle.babel_tlv.specs.contracts.held.HeldOrd.TheImpl.{ghosts}
use Rattle.babel_tlv.specs.declared.held.Held.{Held}
use Rattle.babel_tlv.specs.Keys.{key_cmp}
use Rattle.babel_tlv.specs.Pair.{Pair}
use Rattle.babel_tlv.specs.Route.{RouteKey}
use Rattle.babel_tlv.proofs.OrderLaws.{key_total, key_exact}
use Rattle.babel_table.specs.Rows.{IsRising}
use Rattle.babel_table.proofs.Entries.{miss_below, same_miss}
use Rattle.babel_table.proofs.RowsLaws.{row_at}
use Rattle.babel_canon.specs.declared.every_difference.Difference.{Difference}
use Rattle.babel_canon.specs.Joined.{Joined, differ, difference_of, first_by, joined, joined_with, of_left, of_right}
use Rattle.babel_canon.proofs.ValueLists.{held_order}

-- the keys are above this one
abbrev pub AreAbove : {X : Type 0} → RouteKey → List (RouteKey × X) → Type 0
AreAbove key entries = AllByRecursion (λ other. key_cmp key other ≡ Less) (keys_of entries)

-- what holds of each of the three holds of the one that comes
pub first_when : (P : List Joined → Type 0) (order : Ordering) (less equal greater : List Joined)
    → (order ≡ Less → P less) → (order ≡ Equal → P equal) → (order ≡ Greater → P greater)
    → P (first_by order less equal greater)
first_when P Less less equal greater a b c = a refl
first_when P Equal less equal greater a b c = b refl
first_when P Greater less equal greater a b c = c refl

-- ---- the keys rise

right_keys : (others : List Pair) → keys_of (map of_right others) ≡ keys_of others
right_keys [] = refl
right_keys (other ∷ others) = ap (λ (keys : List RouteKey). other.0 ∷ keys) (right_keys others)

with_above : (key : RouteKey) (later : List Pair → List Joined) (row : Pair) (others : List Pair) → key_cmp key row.0 ≡ Less
    → ((more : List Pair) → AreAbove key more → AreAbove key (later more)) → AreAbove key others → AreAbove key (joined_with later row others)
with_above key later row [] less after above = (less, after [] tt)
with_above key later row (other ∷ others) less after above =
    first_when (AreAbove key) (key_cmp row.0 other.0) _ _ _
    (λ _. (less, after (other ∷ others) above)) (λ _. (less, after others above.1)) (λ _. (above.0, with_above key later row others less after above.1))

joined_above : (key : RouteKey) (rows others : List Pair) → AreAbove key rows → AreAbove key others → AreAbove key (joined rows others)
joined_above key [] others up above = subst (AllByRecursion (λ other. key_cmp key other ≡ Less)) (sym (right_keys others)) above
joined_above key (row ∷ rows) others up above = with_above key (joined rows) row others up.0 (λ more. joined_above key rows more up.1) above

abbrev IsJoined : List Joined → Type 0
IsJoined entries = IsStrictlySortedBy key_cmp (keys_of entries)

reversed : (key other : RouteKey) → key_cmp key other ≡ Greater → key_cmp other key ≡ Less
reversed key other greater = key_total.antisymm other key ∙ ap ordering_reverse greater

-- the keys above one of two that are one are above the other
above_too : {X : Type 0} (key other : RouteKey) (entries : List (RouteKey × X)) → key_cmp key other ≡ Equal → AreAbove other entries → AreAbove key entries
above_too key other entries equal above = subst (λ (k : RouteKey). AreAbove k entries) (sym (key_exact key other equal)) above

with_rising : (row : Pair) (rows others : List Pair) → IsRising (row ∷ rows) → ((more : List Pair) → IsRising more → IsJoined (joined rows more)) → IsRising others
    → IsJoined (joined_with (joined rows) row others)
unfolding IsStrictlySortedBy
with_rising row rows [] up after down = (joined_above row.0 rows [] up.0 tt, after [] tt)
with_rising row rows (other ∷ others) up after down =
    first_when IsJoined (key_cmp row.0 other.0) _ _ _
    (λ less. (joined_above row.0 rows (other ∷ others) up.0 (less, below_all key_total row.0 other.0 (keys_of others) less down.0), after (other ∷ others) down))
    (λ equal. (joined_above row.0 rows others up.0 (above_too row.0 other.0 others equal down.0), after others down.1))
    (λ greater.
    let less = reversed row.0 other.0 greater in
    (joined_above other.0 (row ∷ rows) others (less, below_all key_total other.0 row.0 (keys_of rows) less up.0) down.0, with_rising row rows others up after down.1))

pub joined_rising : (rows others : List Pair) → IsRising rows → IsRising others → IsStrictlySortedBy key_cmp (keys_of (joined rows others))
unfolding IsStrictlySortedBy
joined_rising [] others up down = subst (IsStrictlySortedBy key_cmp) (sym (right_keys others)) down
joined_rising (row ∷ rows) others up down = with_rising row rows others up (λ more. joined_rising rows more up.1) down

-- ---- what is found at each key

-- what two hold, if one of them holds anything
abbrev pub both : Option Held → Option Held → Option (Option Held × Option Held)
both None None = None
both None (Some held) = Some (None, Some held)
both (Some held) other = Some (Some held, other)

abbrev joined_at : List Joined → RouteKey → Option (Option Held × Option Held)
joined_at entries key = lookup (is_at (key_cmp key)) entries

missed : (key other : RouteKey) (rows : List Pair) → is_at (key_cmp key) other ≡ true → AreAbove other rows → row_at rows key ≡ None
missed key other rows is above = same_miss key_total key other rows (equal_of (key_cmp key other) is) ∙ miss_below key_total other rows above

right_at : (others : List Pair) (key : RouteKey) → joined_at (map of_right others) key ≡ both None (row_at others key)
right_at [] key = refl
right_at (other ∷ others) key = by (is_at (key_cmp key) other.0) (right_at others key)
  where
    by : (b : Bool) → joined_at (map of_right others) key ≡ both None (row_at others key)
        → cond b (Some (None, Some other.1)) (joined_at (map of_right others) key) ≡ both None (cond b (Some other.1) (row_at others key))
    by true rest = refl
    by false rest = rest

-- a row, before what is joined of the rows after it, where the others have no such key
left_first : (row : Pair) (rows others : List Pair) (key : RouteKey) → (is_at (key_cmp key) row.0 ≡ true → row_at others key ≡ None)
    → joined_at (joined rows others) key ≡ both (row_at rows key) (row_at others key)
    → joined_at (of_left row ∷ joined rows others) key ≡ both (row_at (row ∷ rows) key) (row_at others key)
left_first row rows others key none rest = by (is_at (key_cmp key) row.0) none
  where
    by : (b : Bool) → (b ≡ true → row_at others key ≡ None)
        → cond b (Some (Some row.1, None)) (joined_at (joined rows others) key) ≡ both (cond b (Some row.1) (row_at rows key)) (row_at others key)
    by true none = ap (λ (o : Option Held). Some (Some row.1, o)) (sym (none refl))
    by false none = rest

-- the same of one of the others
right_first : (rows others : List Pair) (other : Pair) (later : List Joined) (key : RouteKey) → (is_at (key_cmp key) other.0 ≡ true → row_at rows key ≡ None)
    → joined_at later key ≡ both (row_at rows key) (row_at others key)
    → joined_at (of_right other ∷ later) key ≡ both (row_at rows key) (row_at (other ∷ others) key)
right_first rows others other later key none rest = by (is_at (key_cmp key) other.0) none
  where
    by : (b : Bool) → (b ≡ true → row_at rows key ≡ None)
        → cond b (Some (None, Some other.1)) (joined_at later key) ≡ both (row_at rows key) (cond b (Some other.1) (row_at others key))
    by true none = ap (λ (o : Option Held). both o (Some other.1)) (sym (none refl))
    by false none = rest

-- and of a row and one of the others with one key
both_first : (row other : Pair) (rows others : List Pair) (key : RouteKey) → key_cmp row.0 other.0 ≡ Equal
    → joined_at (joined rows others) key ≡ both (row_at rows key) (row_at others key)
    → joined_at ((row.0, (Some row.1, Some other.1)) ∷ joined rows others) key ≡ both (row_at (row ∷ rows) key) (row_at (other ∷ others) key)
both_first row other rows others key equal rest =
    by (is_at (key_cmp key) row.0)
    ∙ ap (λ (k : RouteKey). both (row_at (row ∷ rows) key) (cond (is_at (key_cmp key) k) (Some other.1) (row_at others key))) (key_exact row.0 other.0 equal)
  where
    by : (b : Bool) → cond b (Some (Some row.1, Some other.1)) (joined_at (joined rows others) key)
        ≡ both (cond b (Some row.1) (row_at rows key)) (cond b (Some other.1) (row_at others key))
    by true = refl
    by false = rest

with_found : (row : Pair) (rows others : List Pair) (key : RouteKey) → IsRising (row ∷ rows)
    → ((more : List Pair) → IsRising more → joined_at (joined rows more) key ≡ both (row_at rows key) (row_at more key)) → IsRising others
    → joined_at (joined_with (joined rows) row others) key ≡ both (row_at (row ∷ rows) key) (row_at others key)
unfolding IsStrictlySortedBy
with_found row rows [] key up after down = left_first row rows [] key (λ _. refl) (after [] tt)
with_found row rows (other ∷ others) key up after down =
    first_when (λ (entries : List Joined). joined_at entries key ≡ both (row_at (row ∷ rows) key) (row_at (other ∷ others) key)) (key_cmp row.0 other.0) _ _ _
    (λ less. left_first row rows (other ∷ others) key
    (λ is. missed key row.0 (other ∷ others) is (less, below_all key_total row.0 other.0 (keys_of others) less down.0)) (after (other ∷ others) down))
    (λ equal. both_first row other rows others key equal (after others down.1))
    (λ greater.
    let less = reversed row.0 other.0 greater in
    right_first (row ∷ rows) others other (joined_with (joined rows) row others) key
    (λ is. missed key other.0 (row ∷ rows) is (less, below_all key_total other.0 row.0 (keys_of rows) less up.0))
    (with_found row rows others key up after down.1))

pub joined_found : (rows others : List Pair) (key : RouteKey) → IsRising rows → IsRising others
    → lookup (is_at (key_cmp key)) (joined rows others) ≡ both (row_at rows key) (row_at others key)
unfolding IsStrictlySortedBy
joined_found [] others key up down = right_at others key
joined_found (row ∷ rows) others key up down = with_found row rows others key up (λ more. joined_found rows more key up.1) down

-- ---- the first of what is joined

pub first_left : (rows others rest : List Pair) (row : Pair) → rows ≡ row ∷ rest → others ≡ [] → joined rows others ≡ of_left row ∷ joined rest others
first_left rows others rest row is none = rw (is, none) refl

pub first_right : (rows others rest : List Pair) (other : Pair) → rows ≡ [] → others ≡ other ∷ rest → joined rows others ≡ of_right other ∷ joined rows rest
first_right rows others rest other none is = rw (is, none) refl

module _ (rows others rest more : List Pair) (row other : Pair) (row_is : rows ≡ row ∷ rest) (other_is : others ≡ other ∷ more) where
  pub first_less : key_cmp row.0 other.0 ≡ Less → joined rows others ≡ of_left row ∷ joined rest others
  first_less less = rw (row_is, other_is, less) refl

  pub first_equal : key_cmp row.0 other.0 ≡ Equal → joined rows others ≡ (row.0, (Some row.1, Some other.1)) ∷ joined rest more
  first_equal equal = rw (row_is, other_is, equal) refl

  pub first_greater : key_cmp row.0 other.0 ≡ Greater → joined rows others ≡ of_right other ∷ joined rows more
  first_greater greater = rw (row_is, other_is, greater) refl

-- ---- what differs of what is joined

abbrev kept : List Joined → List Difference
kept entries = map difference_of (filter (λ entry. differ entry.1) entries)

pub kept_first : (entries rest : List Joined) (entry : Joined) → entries ≡ entry ∷ rest → differ entry.1 ≡ true → kept entries ≡ difference_of entry ∷ kept rest
kept_first entries rest entry is differs = ap kept is ∙ ap (λ (b : Bool). map difference_of (cond b (entry ∷ filter (λ e. differ e.1) rest) (filter (λ e. differ e.1) rest))) differs

pub kept_later : (entries rest : List Joined) (entry : Joined) → entries ≡ entry ∷ rest → differ entry.1 ≡ false → kept rest ≡ kept entries
kept_later entries rest entry is same = sym (ap kept is ∙ ap (λ (b : Bool). map difference_of (cond b (entry ∷ filter (λ e. differ e.1) rest) (filter (λ e. differ e.1) rest))) same)

-- what two hold differs where their order, by the order of the type, says so
pub differ_by : (one other : Option Held) (order : Ordering) → order ≡ option_cmp ghosts.cmp one other → differ (one, other) ≡ is_ne order
differ_by one other order is = ap (λ (k : Held → Held → Ordering). is_ne (option_cmp k one other)) (sym held_order) ∙ ap is_ne (sym is)
