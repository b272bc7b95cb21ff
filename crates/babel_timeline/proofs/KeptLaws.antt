-- The queue of a timeline, as its rows change.
use Rattle.std.proofs.Common.{◌≡◌, ℕ, ◌<◌, ◌≤◌, suc, length, Bool, true, false, cond, inl, inr, List, [], ◌∷◌, Option, Some, None, refl, sym, ap, subst, ◌∙◌, arith}
use Rattle.std.specs.Prelude.{◌==◌, ◌&&◌, ◌||◌, IsSome, is_some, nat_eq, nat_lt, not, sum_by, unwrap_or}
use Rattle.std.specs.declared.cmp.Ordering.{Ordering}
use Rattle.std.specs.declared.cmp.Ordering.TheVariants.{Less, Equal, Greater}
use Rattle.std.specs.Ordering.{is_eq, is_gt, match_ordering, nat_cmp, ordering_reverse, ordering_then}
use Rattle.std.specs.Cmp.{IsTotalOrder}
use Rattle.std.specs.BTreeMap.{BTreeMap, get, insert_entry, is_at}
use Rattle.std.specs.BTreeSet.{BTreeSet, contains}
use Rattle.std.specs.List.{list_any}
use Rattle.std.specs.List.Sorted.{IsStrictlySortedBy}
use Rattle.std.specs.Map.{keys_of, lookup, remove_entry, set_value, values_of}
use Rattle.std.specs.Option.{option_eq, option_map}
use Rattle.std.proofs.Math.Nat.{eq-or-lt_of_le}
use Rattle.std.proofs.lemmas.Bool.Decides.{nat_tests}
use Rattle.std.proofs.lemmas.Cmp.{eq_by_cmp_equiv, nat_cmp_total, on_total, then_total}
use Rattle.std.proofs.lemmas.List.{length-map}
use Rattle.std.proofs.lemmas.Map.{length-set_value, lookup-set_value}
use Rattle.std.proofs.lemmas.Map.Entries.{sum_by-set_value}
use Rattle.std.proofs.lemmas.Map.Lookups.{CmpEqualImpliesEq}
use Rattle.std.proofs.lemmas.Map.Made.{is_some-lookup, lookup-map_values}
use Rattle.std.proofs.lemmas.Map.Steps.{set_value_same}
use Rattle.babel_prefix.proofs.Insertion.{below_all, equal_of}
use Rattle.babel_tlv.specs.Keys.{key_cmp}
use Rattle.babel_tlv.proofs.OrderLaws.{key_total}
use Rattle.babel_table.proofs.Entries.{length-insert_new, miss_below}
use Rattle.babel_timeline.specs.declared.entry.Entry.{Entry}
use Rattle.babel_timeline.specs.declared.queue.Expiry.{Expiry}
use Rattle.babel_timeline.specs.declared.row.Row.{Row}
use Rattle.babel_timeline.specs.declared.subject.Subject.{Subject}
use Rattle.babel_timeline.specs.Kept.{AreQueued, IsBy, IsInTime, IsKept, IsSoonest, NoneBy, Waiting, entry_of, expiring, is_due, is_expiry, is_time, keys_in, queued_at}
use Rattle.babel_timeline.specs.Places.{Entries, rows_of}
use Rattle.babel_timeline.specs.Rows.{AllLast, Ends, EndsFirst, Rows, end_of, expiry_cmp, expiry_of, row_at, subject_cmp}
use Rattle.babel_timeline.proofs.Subjects.{Becomes, becomes_cases, becomes_inserted, becomes_removed, same_of, same_self, subject_exact, subject_total}

-- ---- tests

pub below_is : (a b : ℕ) → nat_lt a b ≡ true → a < b
below_is a b e = grind (arith, nat_tests)

pub is_below : (a b : ℕ) → a < b → nat_lt a b ≡ true
is_below a b lt = grind (arith, nat_tests)

pub not_below : (a b : ℕ) → nat_lt a b ≡ false → b ≤ a
not_below a b e = grind (arith, nat_tests)

same_is : (a b : ℕ) → (a == b) ≡ true → a ≡ b
same_is a b e = grind (arith, nat_tests)

is_same : (a : ℕ) → (a == a) ≡ true
is_same a = grind (arith, nat_tests)

not_both : (a b : ℕ) → nat_lt a b ≡ true → (a == b) ≡ true → ⊥
not_both a b e f = let lt = below_is a b e in let same = same_is a b f in omega (arith, lt, same)

eq_nat : (a b : ℕ) → is_eq (nat_cmp a b) ≡ (a == b)
eq_nat a b = by (nat_lt a b) (a == b) refl refl
  where
    by : (below same : Bool) → nat_lt a b ≡ below → (a == b) ≡ same → is_eq (cond below Less (cond same Equal Greater)) ≡ same
    by true true e f = absurd (not_both a b e f)
    by true false e f = refl
    by false true e f = refl
    by false false e f = refl

eq_then : (a b : Ordering) → is_eq (ordering_then a b) ≡ is_eq a && is_eq b
eq_then Less b = refl
eq_then Equal b = refl
eq_then Greater b = refl

and_swap : (a b : Bool) → a && b ≡ b && a
and_swap true true = refl
and_swap true false = refl
and_swap false true = refl
and_swap false false = refl

cond_or : (a b : Bool) → cond a true b ≡ a || b
cond_or true b = refl
cond_or false b = refl

cond_and : (a b : Bool) → cond a false b ≡ not a && b
cond_and true b = refl
cond_and false b = refl

of_not : (b : Bool) → false ≡ not b → b ≡ true
of_not true e = refl
of_not false e = absurd cc

-- times that a test tells to be the same
pub eq_times : (from to : Option ℕ) → option_eq nat_eq from to ≡ true → from ≡ to
eq_times None None e = refl
eq_times None (Some to) e = absurd cc
eq_times (Some from) None e = absurd cc
eq_times (Some from) (Some to) e = ap Some (same_is from to e)

pub same_times : (from to : Option ℕ) → false ≡ not (option_eq nat_eq from to) → from ≡ to
same_times from to e = eq_times from to (of_not _ e)

time_is : (end : Option ℕ) (time : ℕ) → is_time end time ≡ true → end ≡ Some time
time_is None time e = absurd cc
time_is (Some end) time e = ap Some (same_is end time e)

pub not_before : (later time : ℕ) (rest : Ordering) → ¬ (ordering_then (nat_cmp later time) rest ≡ Less) → time ≤ later
not_before later time rest not_less = by (nat_lt later time) refl
  where
    by : (below : Bool) → nat_lt later time ≡ below → time ≤ later
    by true e = absurd (not_less (ap (λ (b : Bool). ordering_then (cond b Less (cond (later == time) Equal Greater)) rest) e))
    by false e = not_below later time e

stays : (from old : Bool) → (from ≡ true → old ≡ true) → old ≡ from || (not from && old)
stays true old kept = kept refl
stays false old kept = refl

first_true : (a b : Bool) → a && b ≡ true → a ≡ true
first_true true b e = refl
first_true false b e = absurd cc

second_true : (a b : Bool) → a && b ≡ true → b ≡ true
second_true true b e = e
second_true false b e = absurd cc

pub some_is : {X : Type 0} (x y : X) → Some x ≡ Some y → x ≡ y
some_is x y e = ap (λ o. unwrap_or o x) e

same_option : (time : Option ℕ) → option_eq nat_eq time time ≡ true
same_option None = refl
same_option (Some time) = is_same time

-- ---- entries

module _ {K X : Type 0} (R : K → K → Ordering) (key : K) where
  -- one that is there is written in its place
  pub set_is_insert : IsTotalOrder R → (entries : List (K × X)) (before after : X) → IsStrictlySortedBy R (keys_of entries) → lookup (is_at (R key)) entries ≡ Some before
      → set_value (is_at (R key)) entries after ≡ insert_entry R entries key after
  unfolding IsStrictlySortedBy
  set_is_insert total [] before after rising is = absurd cc
  set_is_insert total (e ∷ entries) before after rising is = by (set_is_insert total entries before after rising.1) (R key e.0) refl
    where
      by : (lookup (is_at (R key)) entries ≡ Some before → set_value (is_at (R key)) entries after ≡ insert_entry R entries key after) → (o : Ordering) → R key e.0 ≡ o
          → cond (is_eq o) ((e.0, after) ∷ entries) (e ∷ set_value (is_at (R key)) entries after)
          ≡ match_ordering o ((key, after) ∷ e ∷ entries) ((e.0, after) ∷ entries) (e ∷ insert_entry R entries key after)
      by again Less o = let none = miss_below total key (e ∷ entries) (o, below_all total key e.0 (keys_of entries) o rising.0) in absurd cc
      by again Equal o = refl
      by again Greater o =
          ap (λ (es : List (K × X)). e ∷ es)
          (again (sym (ap (λ (b : Bool). cond b (Some e.1) (lookup (is_at (R key)) entries)) (ap is_eq o)) ∙ is))

  -- one that is put where there was none, and taken out again, leaves the entries as they were
  pub remove_inserted : is_at (R key) key ≡ true → (entries : List (K × X)) (value : X) → lookup (is_at (R key)) entries ≡ None → remove_entry (is_at (R key)) (insert_entry R entries key value) ≡ entries
  remove_inserted here [] value none = ap (λ (b : Bool). cond b [] ((key, value) ∷ [])) here
  remove_inserted here (e ∷ entries) value none = by (remove_inserted here entries value) (R key e.0) refl
    where
      by : (lookup (is_at (R key)) entries ≡ None → remove_entry (is_at (R key)) (insert_entry R entries key value) ≡ entries) → (o : Ordering) → R key e.0 ≡ o
          → remove_entry (is_at (R key)) (match_ordering o ((key, value) ∷ e ∷ entries) ((e.0, value) ∷ entries) (e ∷ insert_entry R entries key value)) ≡ e ∷ entries
      by again Less o = ap (λ (b : Bool). cond b (e ∷ entries) ((key, value) ∷ remove_entry (is_at (R key)) (e ∷ entries))) here
      by again Equal o = let is : Some e.1 ≡ None = sym (ap (λ (b : Bool). cond b (Some e.1) (lookup (is_at (R key)) entries)) (ap is_eq o)) ∙ none in absurd cc
      by again Greater o =
          ap (λ (b : Bool). cond b (insert_entry R entries key value) (e ∷ remove_entry (is_at (R key)) (insert_entry R entries key value))) (ap is_eq o)
          ∙ ap (λ (es : List (K × X)). e ∷ es) (again (sym (ap (λ (b : Bool). cond b (Some e.1) (lookup (is_at (R key)) entries)) (ap is_eq o)) ∙ none))

-- ---- the keys of a map

module _ {K X : Type 0} (R : K → K → Ordering) where
  pub keys_have : (map : BTreeMap K X) (key : K) → is_some (get R map key) ≡ contains R (keys_in map) key
  keys_have map key = is_some-lookup (is_at (R key)) map.entries

  -- what a map has besides, or has no more, its keys have, or have no more
  pub keys_updated : (old new : BTreeMap K X) (key : K) (value : Option X) → ((q : K) → get R new q ≡ cond (is_at (R key) q) value (get R old q)) → (other : K)
      → contains R (keys_in new) other ≡ cond (is_at (R key) other) (is_some value) (contains R (keys_in old) other)
  keys_updated old new key value updates other =
      sym (keys_have new other) ∙ ap is_some (updates other) ∙ by (is_at (R key) other) ∙ ap (λ (b : Bool). cond (is_at (R key) other) (is_some value) b) (keys_have old other)
    where
      by : (b : Bool) → is_some (cond b value (get R old other)) ≡ cond b (is_some value) (is_some (get R old other))
      by true = refl
      by false = refl

-- ---- rows of entries

pub row_of_entry : {S : Type 0} (cmp : S → S → Ordering) (entries : Entries S) (subject : Subject S) (entry : Option Entry) → entry_of cmp entries subject ≡ entry
    → row_at cmp (rows_of entries) subject ≡ option_map (λ e. e.row) entry
row_of_entry cmp entries subject entry is = lookup-map_values (λ e. e.row) (is_at (subject_cmp cmp subject)) entries ∙ ap (λ (e : Option Entry). option_map (λ e. e.row) e) is

module _ {S : Type 0} (cmp : S → S → Ordering) (entries : Entries S) where
  pub no_rows : (Among : Subject S → Type 0) → ((other : Subject S) → Among other → entry_of cmp entries other ≡ None) → (other : Subject S) → Among other → row_at cmp (rows_of entries) other ≡ None
  no_rows Among none other at = row_of_entry cmp entries other None (none other at)

  same_some : (entry : Option Entry) → is_some (option_map (λ e. e.row) entry) ≡ is_some entry
  same_some None = refl
  same_some (Some entry) = refl

  pub row_there : (subject : Subject S) → is_some (row_at cmp (rows_of entries) subject) ≡ is_some (entry_of cmp entries subject)
  row_there subject = ap is_some (row_of_entry cmp entries subject (entry_of cmp entries subject) refl) ∙ same_some (entry_of cmp entries subject)

fewer : {K X : Type 0} (test : K → Bool) (es : List (K × X)) → length (remove_entry test es) ≤ length es
fewer test [] = omega arith
fewer test (e ∷ es) = by (fewer test es) (test e.0)
  where
    by : length (remove_entry test es) ≤ length es → (b : Bool) → length (cond b es (e ∷ remove_entry test es)) ≤ suc (length es)
    by again true = omega arith
    by again false = omega (arith, again)

module _ {S : Type 0} (R : Subject S → Subject S → Ordering) (subject : Subject S) where
  pub rows_inserted : (entries : Entries S) (entry : Entry) → rows_of (insert_entry R entries subject entry) ≡ insert_entry R (rows_of entries) subject entry.row
  rows_inserted [] entry = refl
  rows_inserted (e ∷ entries) entry = by (rows_inserted entries entry) (R subject e.0)
    where
      by : rows_of (insert_entry R entries subject entry) ≡ insert_entry R (rows_of entries) subject entry.row → (o : Ordering) → rows_of (match_ordering o ((subject, entry) ∷ e ∷ entries) ((e.0, entry) ∷ entries) (e ∷ insert_entry R entries subject entry))
          ≡ match_ordering o ((subject, entry.row) ∷ rows_of (e ∷ entries)) ((e.0, entry.row) ∷ rows_of entries) ((e.0, e.1.row) ∷ insert_entry R (rows_of entries) subject entry.row)
      by again Less = refl
      by again Equal = refl
      by again Greater = ap (λ (rows : Rows S). (e.0, e.1.row) ∷ rows) again

  pub rows_removed : (entries : Entries S) → rows_of (remove_entry (is_at (R subject)) entries) ≡ remove_entry (is_at (R subject)) (rows_of entries)
  rows_removed [] = refl
  rows_removed (e ∷ entries) = by (rows_removed entries) (is_at (R subject) e.0)
    where
      by : rows_of (remove_entry (is_at (R subject)) entries) ≡ remove_entry (is_at (R subject)) (rows_of entries) → (b : Bool) → rows_of (cond b entries (e ∷ remove_entry (is_at (R subject)) entries)) ≡ cond b (rows_of entries) ((e.0, e.1.row) ∷ remove_entry (is_at (R subject)) (rows_of entries))
      by again true = refl
      by again false = ap (λ (rows : Rows S). (e.0, e.1.row) ∷ rows) again

  rows_set : (entries : Entries S) (entry : Entry) → rows_of (set_value (is_at (R subject)) entries entry) ≡ set_value (is_at (R subject)) (rows_of entries) entry.row
  rows_set [] entry = refl
  rows_set (e ∷ entries) entry = by (rows_set entries entry) (is_at (R subject) e.0)
    where
      by : rows_of (set_value (is_at (R subject)) entries entry) ≡ set_value (is_at (R subject)) (rows_of entries) entry.row → (b : Bool) → rows_of (cond b ((e.0, entry) ∷ entries) (e ∷ set_value (is_at (R subject)) entries entry))
          ≡ cond b ((e.0, entry.row) ∷ rows_of entries) ((e.0, e.1.row) ∷ set_value (is_at (R subject)) (rows_of entries) entry.row)
      by again true = refl
      by again false = ap (λ (rows : Rows S). (e.0, e.1.row) ∷ rows) again

  -- with the row that it had, the rows are the same
  pub rows_same : (entries : Entries S) (before after : Entry) → lookup (is_at (R subject)) entries ≡ Some before → after.row ≡ before.row
      → rows_of (set_value (is_at (R subject)) entries after) ≡ rows_of entries
  rows_same entries before after is row =
      rows_set entries after
      ∙ set_value_same (is_at (R subject)) (rows_of entries) after.row
      (lookup-map_values (λ e. e.row) (is_at (R subject)) entries ∙ ap (λ (e : Option Entry). option_map (λ e. e.row) e) is ∙ ap Some (sym row))

-- ---- the queue

turned : (a b : Ordering) → a ≡ ordering_reverse b → is_gt a ≡ false → ¬ (b ≡ Less)
turned a Less e f = λ less. absurd (let greater : is_gt a ≡ true = ap is_gt e in cc)
turned a Equal e f = λ less. absurd cc
turned a Greater e f = λ less. absurd cc

module _ {S : Type 0} (cmp : S → S → Ordering) (total : IsTotalOrder cmp) where
  expiry_total : IsTotalOrder (expiry_cmp cmp)
  expiry_total = then_total (on_total (λ (e : Expiry S). e.time) nat_cmp_total) (then_total (on_total (λ (e : Expiry S). e.key) key_total) (on_total (λ (e : Expiry S). e.sender) total))

  -- no other expiry is before the least
  pub least_law : (first other : Expiry S) → is_gt (expiry_cmp cmp first other) ≡ false → ¬ (expiry_cmp cmp other first ≡ Less)
  least_law first other le = turned (expiry_cmp cmp first other) (expiry_cmp cmp other first) (expiry_total.antisymm first other) le

  -- none is sooner than the least
  pub first_soonest : (queue : BTreeSet (Expiry S)) (first : Expiry S) → ((other : Expiry S) → contains (expiry_cmp cmp) queue other ≡ true → is_gt (expiry_cmp cmp first other) ≡ false)
      → IsSoonest cmp first.time queue
  first_soonest queue first least other held =
      not_before other.time first.time (ordering_then (key_cmp other.key first.key) (cmp other.sender first.sender)) (least_law first other (least other held))

module _ {S : Type 0} (cmp : S → S → Ordering) where
  is_queued : (time : ℕ) (subject : Subject S) (other : Expiry S) → is_at (expiry_cmp cmp (expiry_of time subject)) other ≡ is_expiry cmp subject (Some time) other
  is_queued time subject other =
      let key : Ordering = key_cmp subject.key other.key in
      let sender : Ordering = cmp subject.sender other.sender in
      eq_then (nat_cmp time other.time) (ordering_then key sender) ∙ ap (λ (b : Bool). b && is_eq (ordering_then key sender)) (eq_nat time other.time)
      ∙ ap (λ (b : Bool). (time == other.time) && b) (eq_then key sender ∙ and_swap (is_eq key) (is_eq sender) ∙ sym (eq_then sender key))

  pub put_law : (old new : BTreeSet (Expiry S)) (queued : Expiry S) (time : Option ℕ) (at : ℕ) (subject : Subject S) → time ≡ Some at → queued ≡ expiry_of at subject
      → ((q : Expiry S) → contains (expiry_cmp cmp) new q ≡ cond (is_at (expiry_cmp cmp queued) q) true (contains (expiry_cmp cmp) old q)) → (other : Expiry S)
      → contains (expiry_cmp cmp) new other ≡ is_expiry cmp subject time other || contains (expiry_cmp cmp) old other
  put_law old new queued time at subject is_at_time is updates other =
      updates other ∙ ap (λ (e : Expiry S). cond (is_at (expiry_cmp cmp e) other) true (contains (expiry_cmp cmp) old other)) is
      ∙ ap (λ (b : Bool). cond b true (contains (expiry_cmp cmp) old other)) (is_queued at subject other)
      ∙ cond_or (is_expiry cmp subject (Some at) other) (contains (expiry_cmp cmp) old other)
      ∙ ap (λ (t : Option ℕ). is_expiry cmp subject t other || contains (expiry_cmp cmp) old other) (sym is_at_time)

  pub take_law : (old new : BTreeSet (Expiry S)) (queued : Expiry S) (time : Option ℕ) (at : ℕ) (subject : Subject S) → time ≡ Some at → queued ≡ expiry_of at subject
      → ((q : Expiry S) → contains (expiry_cmp cmp) new q ≡ cond (is_at (expiry_cmp cmp queued) q) false (contains (expiry_cmp cmp) old q)) → (other : Expiry S)
      → contains (expiry_cmp cmp) new other ≡ not (is_expiry cmp subject time other) && contains (expiry_cmp cmp) old other
  take_law old new queued time at subject is_at_time is updates other =
      updates other ∙ ap (λ (e : Expiry S). cond (is_at (expiry_cmp cmp e) other) false (contains (expiry_cmp cmp) old other)) is
      ∙ ap (λ (b : Bool). cond b false (contains (expiry_cmp cmp) old other)) (is_queued at subject other)
      ∙ cond_and (is_expiry cmp subject (Some at) other) (contains (expiry_cmp cmp) old other)
      ∙ ap (λ (t : Option ℕ). not (is_expiry cmp subject t other) && contains (expiry_cmp cmp) old other) (sym is_at_time)

  -- none is sooner than the sooner one of the new and the old
  pub put_soonest : (old new : BTreeSet (Expiry S)) (queued : Expiry S) (soonest least : ℕ) → IsSoonest cmp soonest old → least ≤ soonest → least ≤ queued.time
      → ((q : Expiry S) → contains (expiry_cmp cmp) new q ≡ cond (is_at (expiry_cmp cmp queued) q) true (contains (expiry_cmp cmp) old q)) → IsSoonest cmp least new
  put_soonest old new queued soonest least soon below under updates expiry held = by (is_at (expiry_cmp cmp queued) expiry) refl
    where
      by : (same : Bool) → is_at (expiry_cmp cmp queued) expiry ≡ same → least ≤ expiry.time
      by true e =
          let same : queued.time ≡ expiry.time = same_is _ _ (first_true _ _ (sym (is_queued queued.time (expiring queued) expiry) ∙ e)) in
          omega (arith, under, same)
      by false e =
          let was : contains (expiry_cmp cmp) old expiry ≡ true = ap (λ (b : Bool). cond b true (contains (expiry_cmp cmp) old expiry)) (sym e) ∙ sym (updates expiry) ∙ held in
          omega (arith, soon expiry was, below)

  pub take_soonest : (old new : BTreeSet (Expiry S)) (queued : Expiry S) (soonest : ℕ) → IsSoonest cmp soonest old
      → ((q : Expiry S) → contains (expiry_cmp cmp) new q ≡ cond (is_at (expiry_cmp cmp queued) q) false (contains (expiry_cmp cmp) old q)) → IsSoonest cmp soonest new
  take_soonest old new queued soonest soon updates expiry held = by (is_at (expiry_cmp cmp queued) expiry) (sym (updates expiry) ∙ held)
    where
      by : (same : Bool) → cond same false (contains (expiry_cmp cmp) old expiry) ≡ true → soonest ≤ expiry.time
      by true e = absurd cc
      by false e = soon expiry e

  -- moved from one time to the same
  pub same_law : (subject : Subject S) (from to : Option ℕ) (other : Expiry S) (old : Bool) → from ≡ to → (is_expiry cmp subject from other ≡ true → old ≡ true)
      → old ≡ is_expiry cmp subject to other || (not (is_expiry cmp subject from other) && old)
  same_law subject from to other old same kept =
      stays (is_expiry cmp subject from other) old kept ∙ ap (λ (t : Option ℕ). is_expiry cmp subject t other || (not (is_expiry cmp subject from other) && old)) same

  -- ---- entries that change

  abbrev pub Queues : Entries S → BTreeSet (Expiry S) → Type 0
  Queues entries queue = (expiry : Expiry S) → contains (expiry_cmp cmp) queue expiry ≡ is_due cmp entries expiry

  abbrev pub Moves : Subject S → Option ℕ → Option ℕ → BTreeSet (Expiry S) → BTreeSet (Expiry S) → Type 0
  Moves subject from to old new = (other : Expiry S) → contains (expiry_cmp cmp) new other
      ≡ is_expiry cmp subject to other || (not (is_expiry cmp subject from other) && contains (expiry_cmp cmp) old other)

  abbrev pub TakesOut : Subject S → Option ℕ → BTreeSet (Expiry S) → BTreeSet (Expiry S) → Type 0
  TakesOut subject time old new = (other : Expiry S) → contains (expiry_cmp cmp) new other ≡ not (is_expiry cmp subject time other) && contains (expiry_cmp cmp) old other

moved_here : (to from : Bool) → (to && true) || (not (from && true) && from) ≡ to
moved_here true true = refl
moved_here true false = refl
moved_here false true = refl
moved_here false false = refl

moved_there : (to from was : Bool) → (to && false) || (not (from && false) && was) ≡ was
moved_there true true was = refl
moved_there true false was = refl
moved_there false true was = refl
moved_there false false was = refl

pub has_some : (entry : Option Entry) (time : ℕ) → queued_at entry ≡ Some time → IsSome entry
has_some None time e = absurd cc
has_some (Some entry) time e = refl

pub ends_in_time : (factor : Option ℕ) (entry : Entry) → entry.queued ≡ end_of factor entry.row.when → IsInTime factor entry
ends_in_time factor entry is time ends = subst (IsBy time) (sym (is ∙ ends)) (omega arith)

pub queued_on : {S : Type 0} {cmp : S → S → Ordering} {factor : Option ℕ} {entries : Entries S} {old new : Waiting S} → new ≡ old → AreQueued cmp factor entries old.expiries
    → AreQueued cmp factor entries new.expiries
queued_on {S} {cmp} {factor} {entries} same queued = subst (λ (queue : Waiting S). AreQueued cmp factor entries queue.expiries) (sym same) queued

-- an entry counts that is not queued for its row's end
abbrev pub unsettled : Option ℕ → Entry → ℕ
unsettled factor entry = cond (option_eq nat_eq entry.queued (end_of factor entry.row.when)) 0 1

taken_here : (from : Bool) → not (from && true) && from ≡ false
taken_here true = refl
taken_here false = refl

taken_there : (from was : Bool) → not (from && false) && was ≡ was
taken_there true was = refl
taken_there false was = refl

module _ {S : Type 0} (cmp : S → S → Ordering) (total : IsTotalOrder cmp) (exact : CmpEqualImpliesEq cmp) where
  becomes_set : (entries : Entries S) (subject : Subject S) (entry : Entry) → IsSome (entry_of cmp entries subject)
      → Becomes cmp entries subject (Some entry) (set_value (is_at (subject_cmp cmp subject)) entries entry)
  becomes_set entries subject entry some other =
      lookup-set_value (eq_by_cmp_equiv (subject_total cmp total)) (is_at (subject_cmp cmp subject))
      (λ x y e. ap is_eq ((subject_total cmp total).congr subject x y (equal_of _ e))) other entry entries some

  was_due : (entries : Entries S) (queue : BTreeSet (Expiry S)) (subject : Subject S) (from : Option ℕ) (expiry : Expiry S) → Queues cmp entries queue
      → from ≡ queued_at (entry_of cmp entries subject) → subject ≡ expiring expiry → contains (expiry_cmp cmp) queue expiry ≡ is_time from expiry.time
  was_due entries queue subject from expiry queues is same =
      queues expiry ∙ ap (λ (s : Subject S). is_time (queued_at (entry_of cmp entries s)) expiry.time) (sym same) ∙ ap (λ (t : Option ℕ). is_time t expiry.time) (sym is)

  due_by : (entries : Entries S) (expiry : Expiry S) (entry : Option Entry) → entry_of cmp entries (expiring expiry) ≡ entry → is_due cmp entries expiry ≡ is_time (queued_at entry) expiry.time
  due_by entries expiry entry is = ap (λ (e : Option Entry). is_time (queued_at e) expiry.time) is

  -- what a subject is queued for is in the queue
  pub is_in : (entries : Entries S) (queue : BTreeSet (Expiry S)) (subject : Subject S) (from : Option ℕ) → Queues cmp entries queue → from ≡ queued_at (entry_of cmp entries subject)
      → (other : Expiry S) → is_expiry cmp subject from other ≡ true → contains (expiry_cmp cmp) queue other ≡ true
  is_in entries queue subject from queues is other due =
      was_due entries queue subject from other queues is (subject_exact cmp exact subject (expiring other) (equal_of _ (second_true (is_time from other.time) _ due)))
      ∙ first_true (is_time from other.time) _ due

  -- what is first in the queue has an entry
  pub first_has : (entries : Entries S) (queue : BTreeSet (Expiry S)) (first : Expiry S) (subject : Subject S) (got : Option Entry) → Queues cmp entries queue
      → contains (expiry_cmp cmp) queue first ≡ true → subject ≡ expiring first → got ≡ entry_of cmp entries subject → queued_at got ≡ Some first.time
  first_has entries queue first subject got queues held is got_is =
      ap queued_at (got_is ∙ ap (λ (s : Subject S). entry_of cmp entries s) is) ∙ time_is _ first.time (sym (queues first) ∙ held)

  moved : (entries after : Entries S) (old new : BTreeSet (Expiry S)) (subject : Subject S) (entry : Entry) (from : Option ℕ) → Queues cmp entries old
      → from ≡ queued_at (entry_of cmp entries subject) → Moves cmp subject from entry.queued old new → Becomes cmp entries subject (Some entry) after → Queues cmp after new
  moved entries after old new subject entry from queues from_is moves becomes expiry =
      let at : Subject S = expiring expiry in
      let to : Bool = is_time entry.queued expiry.time in
      let f : Bool → Bool → Bool = λ here was. (to && here) || (not (is_time from expiry.time && here) && was) in
      moves expiry ∙ (elim (becomes_cases cmp exact entries subject (Some entry) after becomes at) [
        | inl hit ↦
            ap (λ (b : Bool). f b (contains (expiry_cmp cmp) old expiry)) (same_of cmp total subject at hit.0)
            ∙ ap (λ (b : Bool). f true b) (was_due entries old subject from expiry queues from_is hit.0) ∙ moved_here to (is_time from expiry.time)
            ∙ sym (due_by after expiry (Some entry) hit.1)
        | inr miss ↦
            ap (λ (b : Bool). f b (contains (expiry_cmp cmp) old expiry)) miss.0 ∙ moved_there to (is_time from expiry.time) (contains (expiry_cmp cmp) old expiry)
            ∙ queues expiry ∙ sym (due_by after expiry (entry_of cmp entries at) miss.1)
      ])

  taken : (entries after : Entries S) (old new : BTreeSet (Expiry S)) (subject : Subject S) (from : Option ℕ) → Queues cmp entries old
      → from ≡ queued_at (entry_of cmp entries subject) → TakesOut cmp subject from old new → Becomes cmp entries subject None after → Queues cmp after new
  taken entries after old new subject from queues from_is takes becomes expiry =
      let at : Subject S = expiring expiry in
      let f : Bool → Bool → Bool = λ here was. not (is_time from expiry.time && here) && was in
      takes expiry ∙ (elim (becomes_cases cmp exact entries subject None after becomes at) [
        | inl hit ↦
            ap (λ (b : Bool). f b (contains (expiry_cmp cmp) old expiry)) (same_of cmp total subject at hit.0)
            ∙ ap (λ (b : Bool). f true b) (was_due entries old subject from expiry queues from_is hit.0) ∙ taken_here (is_time from expiry.time)
            ∙ sym (due_by after expiry None hit.1)
        | inr miss ↦
            ap (λ (b : Bool). f b (contains (expiry_cmp cmp) old expiry)) miss.0 ∙ taken_there (is_time from expiry.time) (contains (expiry_cmp cmp) old expiry)
            ∙ queues expiry ∙ sym (due_by after expiry (entry_of cmp entries at) miss.1)
      ])

  module _ (factor : Option ℕ) where
    -- an entry that is put is queued where it says
    pub put_queued : (entries after : Entries S) (old new : BTreeSet (Expiry S)) (subject : Subject S) (entry : Entry) (from : Option ℕ) → AreQueued cmp factor entries old
        → from ≡ queued_at (entry_of cmp entries subject) → Moves cmp subject from entry.queued old new → Becomes cmp entries subject (Some entry) after → IsInTime factor entry
        → AreQueued cmp factor after new
    put_queued entries after old new subject entry from queue from_is moves becomes in_time = record {
      queued = moved entries after old new subject entry from queue.queued from_is moves becomes;
      in_time = λ other its held. elim (becomes_cases cmp exact entries subject (Some entry) after becomes other) [
        | inl hit ↦ subst (IsInTime factor) (some_is entry its (sym hit.1 ∙ held)) in_time
        | inr miss ↦ queue.in_time other its (sym miss.1 ∙ held)
      ];
    }

    pub set_queued : (entries : Entries S) (old new : BTreeSet (Expiry S)) (subject : Subject S) (before after : Entry) → AreQueued cmp factor entries old
        → entry_of cmp entries subject ≡ Some before → Moves cmp subject before.queued after.queued old new → IsInTime factor after
        → AreQueued cmp factor (set_value (is_at (subject_cmp cmp subject)) entries after) new
    set_queued entries old new subject before after queue is moves in_time =
        put_queued entries (set_value (is_at (subject_cmp cmp subject)) entries after) old new subject after before.queued queue (sym (ap queued_at is)) moves
        (becomes_set entries subject after (subst (λ (o : Option Entry). IsSome o) (sym is) refl)) in_time

    pub same_queued : (entries : Entries S) (old new : BTreeSet (Expiry S)) → AreQueued cmp factor entries old → new.keys ≡ old.keys → AreQueued cmp factor entries new
    same_queued entries old new queue same = record {
      queued = λ expiry. ap (λ (keys : List (Expiry S)). list_any (is_at (expiry_cmp cmp expiry)) keys) same ∙ queue.queued expiry;
      in_time = queue.in_time;
    }

    pub taken_queued : (entries after : Entries S) (old new : BTreeSet (Expiry S)) (subject : Subject S) (from : Option ℕ) → AreQueued cmp factor entries old
        → from ≡ queued_at (entry_of cmp entries subject) → TakesOut cmp subject from old new → Becomes cmp entries subject None after → AreQueued cmp factor after new
    taken_queued entries after old new subject from queue from_is takes becomes = record {
      queued = taken entries after old new subject from queue.queued from_is takes becomes;
      in_time = λ other its held. elim (becomes_cases cmp exact entries subject None after becomes other) [
        | inl hit ↦ let none : None ≡ Some its = sym hit.1 ∙ held in absurd cc
        | inr miss ↦ queue.in_time other its (sym miss.1 ∙ held)
      ];
    }

    -- an entry that was added is taken out again
    pub put_back : (entries found added taken : Entries S) (subject : Subject S) (entry : Entry) → entry_of cmp entries subject ≡ None → found ≡ entries
        → added ≡ insert_entry (subject_cmp cmp) found subject entry → taken ≡ remove_entry (is_at (subject_cmp cmp subject)) added → taken ≡ entries
    put_back entries found added taken subject entry none same adds takes =
        takes ∙ ap (λ (es : Entries S). remove_entry (is_at (subject_cmp cmp subject)) es) (adds ∙ ap (λ (es : Entries S). insert_entry (subject_cmp cmp) es subject entry) same)
        ∙ remove_inserted (subject_cmp cmp) subject (same_self cmp total subject) entries entry none

    -- ---- what ends first

    abbrev pub IsLeast : BTreeSet (Expiry S) → Expiry S → Type 0
    IsLeast queue first = (other : Expiry S) → contains (expiry_cmp cmp) queue other ≡ true → ¬ (expiry_cmp cmp other first ≡ Less)

    -- what ends is in the queue, for no later
    queued_by : (entries : Entries S) (queue : BTreeSet (Expiry S)) (subject : Subject S) (time : ℕ) → AreQueued cmp factor entries queue → Ends cmp factor (rows_of entries) subject time
        → (at : ℕ) × (contains (expiry_cmp cmp) queue (expiry_of at subject) ≡ true) × (at ≤ time)
    queued_by entries queue subject time kept ends = by (entry_of cmp entries subject) refl
      where
        queued : (entry : Entry) (queued : Option ℕ) → entry_of cmp entries subject ≡ Some entry → entry.queued ≡ queued → IsBy time queued
            → (at : ℕ) × (contains (expiry_cmp cmp) queue (expiry_of at subject) ≡ true) × (at ≤ time)
        queued entry None is queued_is in_time = absurd in_time
        queued entry (Some at) is queued_is in_time =
            (at, kept.queued (expiry_of at subject) ∙ ap (λ (e : Option Entry). is_time (queued_at e) at) is ∙ ap (λ (t : Option ℕ). is_time t at) queued_is ∙ is_same at, in_time)

        by : (entry : Option Entry) → entry_of cmp entries subject ≡ entry → (at : ℕ) × (contains (expiry_cmp cmp) queue (expiry_of at subject) ≡ true) × (at ≤ time)
        by None is = let none : None ≡ Some ends.row = sym (row_of_entry cmp entries subject None is) ∙ ends.held in absurd cc
        by (Some entry) is =
            let row : entry.row ≡ ends.row = some_is entry.row ends.row (sym (row_of_entry cmp entries subject (Some entry) is) ∙ ends.held) in
            queued entry entry.queued is refl (kept.in_time subject entry is time (ap (λ (r : Row). end_of factor r.when) row ∙ ends.end))

    -- where nothing is queued up to a time, nothing ends by then
    pub quiet_ends : (until : ℕ) (entries : Entries S) (queue : BTreeSet (Expiry S)) → AreQueued cmp factor entries queue → NoneBy cmp until queue → AllLast cmp factor until (rows_of entries)
    quiet_ends until entries queue kept quiet = λ subject time ends.
        let queued = queued_by entries queue subject time kept ends in
        omega (arith, quiet (expiry_of queued.0 subject) queued.1, queued.2)

    -- what is before another is before it at an earlier time, too
    sooner : (at later : ℕ) (subject : Subject S) (first : Expiry S) → at ≤ later → expiry_cmp cmp (expiry_of later subject) first ≡ Less → expiry_cmp cmp (expiry_of at subject) first ≡ Less
    sooner at later subject first le less = elim (eq-or-lt_of_le le) [
      | inl same ↦ subst (λ n. expiry_cmp cmp (expiry_of n subject) first ≡ Less) (sym same) less
      | inr lt ↦
          (expiry_total cmp total).trans (expiry_of at subject) (expiry_of later subject) first
          (ap (λ (b : Bool). ordering_then (cond b Less (cond (at == later) Equal Greater)) (ordering_then (key_cmp subject.key subject.key) (cmp subject.sender subject.sender))) (is_below at later lt)) less
    ]

    pub first_ends : (entries : Entries S) (queue : BTreeSet (Expiry S)) (first : Expiry S) (entry : Entry) → AreQueued cmp factor entries queue
        → entry_of cmp entries (expiring first) ≡ Some entry → end_of factor entry.row.when ≡ Some first.time → IsLeast queue first → EndsFirst cmp factor (rows_of entries) (expiring first) first.time
    first_ends entries queue first entry kept is end least = record {
      ends = record { row = entry.row; held = row_of_entry cmp entries (expiring first) (Some entry) is; end = end };
      first = λ other later ends less.
          let queued = queued_by entries queue other later kept ends in
          least (expiry_of queued.0 other) queued.1 (sooner queued.0 later other first queued.2 less);
    }

    -- ---- what is queued anew

    pub less_unsettled : (entries : Entries S) (subject : Subject S) (before after : Entry) → entry_of cmp entries subject ≡ Some before
        → option_eq nat_eq before.queued (end_of factor before.row.when) ≡ false → after.queued ≡ end_of factor after.row.when
        → sum_by (unsettled factor) (values_of (set_value (is_at (subject_cmp cmp subject)) entries after)) < sum_by (unsettled factor) (values_of entries)
    less_unsettled entries subject before after is apart settled =
        let sum = sum_by-set_value (unsettled factor) (is_at (subject_cmp cmp subject)) entries before after is in
        let was : unsettled factor before ≡ 1 = ap (λ (b : Bool). cond b 0 1) apart in
        let now : unsettled factor after ≡ 0 =
        ap (λ (b : Bool). cond b 0 1) (ap (λ (t : Option ℕ). option_eq nat_eq t (end_of factor after.row.when)) settled ∙ same_option (end_of factor after.row.when)) in
        omega (arith, sum, was, now)

    -- ---- a timeline

    pub taken_kept : (limit : ℕ) (entries : Entries S) (old new : BTreeSet (Expiry S)) (subject : Subject S) (from : Option ℕ) → IsKept cmp factor limit entries old
        → IsStrictlySortedBy (subject_cmp cmp) (keys_of entries) → from ≡ queued_at (entry_of cmp entries subject) → TakesOut cmp subject from old new
        → IsKept cmp factor limit (remove_entry (is_at (subject_cmp cmp subject)) entries) new
    taken_kept limit entries old new subject from kept rising from_is takes = record {
      few = omega (arith, kept.few, fewer (is_at (subject_cmp cmp subject)) entries);
      queue = taken_queued entries (remove_entry (is_at (subject_cmp cmp subject)) entries) old new subject from kept.queue from_is takes (becomes_removed cmp total entries subject rising);
    }

    pub added_kept : (limit : ℕ) (entries : Entries S) (old new : BTreeSet (Expiry S)) (subject : Subject S) (entry : Entry) → IsKept cmp factor limit entries old
        → length (rows_of entries) < limit → entry_of cmp entries subject ≡ None → Moves cmp subject None entry.queued old new → entry.queued ≡ end_of factor entry.row.when
        → IsKept cmp factor limit (insert_entry (subject_cmp cmp) entries subject entry) new
    added_kept limit entries old new subject entry kept room none moves is = record {
      few = omega (arith, room, length-map {B = Subject S × Row} entries (λ (e : Subject S × Entry). (e.0, e.1.row)), length-insert_new (subject_total cmp total) subject entry entries none);
      queue = put_queued entries (insert_entry (subject_cmp cmp) entries subject entry) old new subject entry None kept.queue (sym (ap queued_at none)) moves
          (becomes_inserted cmp total entries subject entry) (ends_in_time factor entry is);
    }

    pub set_kept : (limit : ℕ) (entries : Entries S) (old new : BTreeSet (Expiry S)) (subject : Subject S) (before after : Entry) → IsKept cmp factor limit entries old
        → entry_of cmp entries subject ≡ Some before → Moves cmp subject before.queued after.queued old new → IsInTime factor after
        → IsKept cmp factor limit (set_value (is_at (subject_cmp cmp subject)) entries after) new
    set_kept limit entries old new subject before after kept is moves in_time = record {
      few = omega (arith, kept.few, length-set_value (is_at (subject_cmp cmp subject)) entries after);
      queue = set_queued entries old new subject before after kept.queue is moves in_time;
    }
