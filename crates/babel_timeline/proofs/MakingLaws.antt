-- What changes make of rows.
use Rattle.std.proofs.Common.{◌≡◌, ◌≢◌, ◌∙◌, ℕ, Bool, true, false, cond, inl, inr, List, [], ◌∷◌, ◌++◌, Option, Some, None, ap, refl, subst, sym}
use Rattle.std.specs.Prelude.{option_to_list}
use Rattle.std.specs.declared.cmp.Ordering.{Ordering}
use Rattle.std.specs.BTreeMap.{insert_entry, is_at}
use Rattle.std.specs.Cmp.{IsTotalOrder}
use Rattle.std.specs.List.{AllByRecursion}
use Rattle.std.specs.List.Sorted.{IsStrictlySortedBy}
use Rattle.std.specs.Map.{keys_of}
use Rattle.std.proofs.lemmas.List.{append-nil}
use Rattle.std.proofs.lemmas.Map.Lookups.{CmpEqualImpliesEq}
use Rattle.babel_prefix.proofs.Insertion.{sorted-insert}
use Rattle.babel_table.proofs.Entries.{sorted-remove}
use Rattle.babel_tlv.specs.declared.event.Event.{Event}
use Rattle.babel_tlv.specs.declared.event.Event.TheVariants as events
use Rattle.babel_tlv.specs.declared.mode.Mode.TheVariants as modes
use Rattle.babel_tlv.specs.Route.{Announcement, RouteKey}
use Rattle.babel_table.specs.Moments.{Stamp, Word, word_after}
use Rattle.babel_timeline.specs.declared.change.Change.{Change}
use Rattle.babel_timeline.specs.declared.row.Row.{Row}
use Rattle.babel_timeline.specs.declared.subject.Subject.{Subject}
use Rattle.babel_timeline.specs.Accounts.{Said, said, word_on}
use Rattle.babel_timeline.specs.Laws.{without}
use Rattle.babel_timeline.specs.Rows.{HasNone, Rows, row_at, subject_cmp, subject_of}
use Rattle.babel_timeline.specs.Taking.{OthersStay}
use Rattle.babel_timeline.specs.Telling.{AreLastSaid, AreLastWords, AreRowsBy, IsChangeOf, KeepsRows, KeepsSaid}
use Rattle.babel_timeline.proofs.AccountLaws.{Tells, says_step, word_of}
use Rattle.babel_timeline.proofs.HeldLaws.{ann_of}
use Rattle.babel_timeline.proofs.Subjects.{becomes_inserted, becomes_removed, subject_total}
use Rattle.babel_timeline.proofs.WordLaws.{next, none_left, sender_or, sender_same, word_more, words_become}

-- a change is of its time and its subject's sender
pub own_change : {S : Type 0} (time : ℕ) (subject : Subject S) (old new : Option Announcement) (told : Option (Change S)) → Tells time subject old new told
    → AllByRecursion (IsChangeOf time subject.sender) (option_to_list told)
own_change time subject old new None tells = tt
own_change {S} time subject old new (Some told) tells = ((tells.0, ap (λ (s : Subject S). s.sender) tells.1), tt)

module _ {S : Type 0} (cmp : S → S → Ordering) where
  pub no_rows : AreRowsBy cmp [] []
  unfolding IsStrictlySortedBy
  no_rows = record { rising = tt; told = λ subject. refl }

  pub none_said : AreLastSaid cmp [] [] []
  none_said = record { are_rows = no_rows; last = λ subject. refl }

  pub same_keeps : (rows : Rows S) → KeepsRows cmp rows [] rows
  same_keeps rows before were = subst (λ (cs : List (Change S)). AreRowsBy cmp cs rows) (sym (append-nil before)) were

module _ {S : Type 0} (cmp : S → S → Ordering) (total : IsTotalOrder cmp) (exact : CmpEqualImpliesEq cmp) where
  pub inserted_keeps : (rows : Rows S) (subject : Subject S) (row : Row) (told : Option (Change S)) → Tells row.when.time subject (ann_of (row_at cmp rows subject)) (Some row.ann) told
      → KeepsRows cmp rows (option_to_list told) (insert_entry (subject_cmp cmp) rows subject row)
  inserted_keeps rows subject row told tells before were = record {
    rising = sorted-insert (subject_total cmp total) subject row rows were.rising;
    told = says_step cmp total exact before rows (insert_entry (subject_cmp cmp) rows subject row) subject (Some row) row.when.time told (becomes_inserted cmp total rows subject row) were.told tells;
  }

  pub removed_keeps : (rows : Rows S) (subject : Subject S) (time : ℕ) (told : Option (Change S)) → Tells time subject (ann_of (row_at cmp rows subject)) None told
      → KeepsRows cmp rows (option_to_list told) (without cmp subject rows)
  removed_keeps rows subject time told tells before were = record {
    rising = sorted-remove (subject_total cmp total) (is_at (subject_cmp cmp subject)) rows were.rising;
    told = says_step cmp total exact before rows (without cmp subject rows) subject None time told (becomes_removed cmp total rows subject were.rising) were.told tells;
  }

-- ---- what was said last, whenever that was

step : (here : Bool) (new old : Option Row) (said : Option Word) → word_of old ≡ said → word_of (cond here new old) ≡ cond here (word_of new) said
step true new old said is = refl
step false new old said is = is

module _ {S : Type 0} (cmp : S → S → Ordering) (total : IsTotalOrder cmp) (exact : CmpEqualImpliesEq cmp) where
  abbrev Rises : Rows S → Type 0
  Rises rows = IsStrictlySortedBy (subject_cmp cmp) (keys_of rows)

  pub keeps_said : (more : List (Said S)) (rows : Rows S) (changes : List (Change S)) (after : Rows S) → KeepsRows cmp rows changes after
      → ((all : List (Said S)) → Rises rows → AreLastWords cmp all rows → AreLastWords cmp (all ++ more) after) → KeepsSaid cmp more rows changes after
  keeps_said more rows changes after becomes words all before were = record { are_rows = becomes before were.are_rows; last = words all were.are_rows.rising were.last }

  pub inserted_last : (rows : Rows S) (subject : Subject S) (row : Row) (all : List (Said S)) → AreLastWords cmp all rows
      → AreLastWords cmp (all ++ said subject.sender row.when (events.Announce subject.key row.ann) ∷ []) (insert_entry (subject_cmp cmp) rows subject row)
  inserted_last rows subject row all last other =
      ap word_of (becomes_inserted cmp total rows subject row other) ∙ step (is_at (subject_cmp cmp subject) other) (Some row) (row_at cmp rows other) (word_on cmp all other) (last other)
      ∙ sym (words_become cmp total all subject row.when (events.Announce subject.key row.ann) (word_of (Some row)) (λ key old. refl) other)

  pub removed_last : (rows : Rows S) (subject : Subject S) (when : Stamp) (all : List (Said S)) → Rises rows → AreLastWords cmp all rows
      → AreLastWords cmp (all ++ said subject.sender when (events.Retract subject.key) ∷ []) (without cmp subject rows)
  removed_last rows subject when all rising last other =
      ap word_of (becomes_removed cmp total rows subject rising other) ∙ step (is_at (subject_cmp cmp subject) other) None (row_at cmp rows other) (word_on cmp all other) (last other)
      ∙ sym (words_become cmp total all subject when (events.Retract subject.key) None (λ key old. refl) other)

  -- what speaks of no key leaves the words
  pub same_words : (all : List (Said S)) (sender : S) (when : Stamp) (event : Event) → ((key : RouteKey) (word : Option Word) → word_after modes.Plain 0 key when event word ≡ word) → (other : Subject S)
      → word_on cmp (all ++ said sender when event ∷ []) other ≡ word_on cmp all other
  same_words all sender when event quiet other =
      word_more cmp all (said sender when event) other ∙ by (is_at (cmp other.sender) sender) (next other.key when event (word_on cmp all other)) (word_on cmp all other) (quiet other.key (word_on cmp all other))
    where
      by : (own : Bool) (new old : Option Word) → new ≡ old → cond own new old ≡ old
      by true new old e = e
      by false new old e = refl

  -- a wildcard leaves no word of its sender
  pub all_last : (rows now : Rows S) (sender : S) (when : Stamp) (all : List (Said S)) → OthersStay cmp sender rows now → HasNone cmp sender now → AreLastWords cmp all rows
      → AreLastWords cmp (all ++ said sender when events.RetractAll ∷ []) now
  all_last rows now sender when all others none last other = elim (sender_or cmp total exact other.sender sender) [
    | inl same ↦
        let no_row : row_at cmp now other ≡ None = ap (λ (s : S). row_at cmp now (subject_of s other.key)) same ∙ none other.key in
        ap word_of no_row ∙ sym (more true (sender_same cmp total other.sender sender same) ∙ none_left other.key when (word_on cmp all other))
    | inr apart ↦
        let differs : other.sender ≢ sender = λ same. let hit : is_at (cmp other.sender) sender ≡ true = sender_same cmp total other.sender sender same in cc in
        ap word_of (others other differs) ∙ last other ∙ sym (more false apart)
  ]
    where
      more : (own : Bool) → is_at (cmp other.sender) sender ≡ own
          → word_on cmp (all ++ said sender when events.RetractAll ∷ []) other ≡ cond own (next other.key when events.RetractAll (word_on cmp all other)) (word_on cmp all other)
      more own is =
          word_more cmp all (said sender when events.RetractAll) other ∙ ap (λ (b : Bool). cond b (next other.key when events.RetractAll (word_on cmp all other)) (word_on cmp all other)) is
