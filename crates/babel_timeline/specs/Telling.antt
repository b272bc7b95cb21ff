-- What is told of many senders as their packets come: this project's own.
use Rattle.std.specs.Prelude.{◌≡◌, ◌≢◌, ℕ, ◌+◌, ◌≤◌, ◌==◌, Bool, true, false, ◌&&◌, if◌then◌else◌, List}
use Rattle.std.specs.Prelude.{[], ◌∷◌, ◌++◌, map, fold, Option, Some, None}
use Rattle.std.specs.declared.cmp.Ordering.{Ordering}
use Rattle.std.specs.BTreeMap.{is_at}
use Rattle.std.specs.List.{AllByRecursion, filter, flat_map}
use Rattle.std.specs.List.Sorted.{IsStrictlySortedBy}
use Rattle.std.specs.Map.{keys_of}
use Rattle.std.specs.Option.{option_map}
use Rattle.babel_prefix.specs.Address.{Address, AddressPrefix, prefix_at}
use Rattle.babel_prefix.specs.Block.{leading_bits}
use Rattle.babel_prefix.specs.Width.{same_family, width_of}
use Rattle.babel_tlv.specs.declared.event.Event.{Event}
use Rattle.babel_tlv.specs.declared.event.Event.TheVariants as events
use Rattle.babel_tlv.specs.declared.held.Held.TheVariants as helds
use Rattle.babel_tlv.specs.declared.start.Start.{Start}
use Rattle.babel_tlv.specs.declared.view.View.{View}
use Rattle.babel_tlv.specs.Context.{first_context}
use Rattle.babel_tlv.specs.Framing.{ArePlaced, TlvAt, packet_octets}
use Rattle.babel_tlv.specs.Route.{RouteKey}
use Rattle.babel_tlv.specs.Views.{seen_announcement}
use Rattle.babel_table.specs.Moments.{Told, told_from, word}
use Rattle.babel_timeline.specs.declared.best_match.BestMatch.{BestMatch}
use Rattle.babel_timeline.specs.declared.change.Change.{Change}
use Rattle.babel_timeline.specs.declared.change.ChangeKind.TheVariants as kinds
use Rattle.babel_timeline.specs.declared.row.Row.{Row}
use Rattle.babel_timeline.specs.declared.subject.Subject.{Subject}
use Rattle.babel_timeline.specs.declared.telling.Telling.{Telling}
use Rattle.babel_timeline.specs.declared.telling.Telling.TheVariants as tellings
use Rattle.babel_timeline.specs.Accounts.{IsAccount, Said, said, word_on}
use Rattle.babel_timeline.specs.Changes.{ending, told_by}
use Rattle.babel_timeline.specs.Laws.{without}
use Rattle.babel_timeline.specs.Rows.{AllLast, EndsFirst, HasNoneUpTo, IsLastUpTo, Rows, row_at}
use Rattle.babel_timeline.specs.Rows.{subject_cmp}

-- ---- what is said

-- a destination and a source address that are asked for, or none
abbrev pub AskedFor : Type 0
AskedFor = Option (Address × Address)

-- RFC 8966, 4.1.5: whether the prefix has the address
abbrev pub covers : AddressPrefix → Address → Bool
covers prefix address =
    let width = width_of prefix.address.family in
    same_family prefix.address.family address.family
    && (leading_bits width prefix.len address.bits
    == leading_bits width prefix.len prefix.address.bits)

-- whether a key counts: where addresses are asked for, each of its prefixes has one of them
abbrev pub counts : AskedFor → RouteKey → Bool
counts None key = true
counts (Some pair) key = covers key.dst pair.0 && covers key.src pair.1

-- what counts of an event, as the view sees it
abbrev pub seen_event : AskedFor → View → Event → Event
seen_event asked view (events.Announce key ann) =
    if counts asked key
    then events.Announce key (seen_announcement view key.dst.address.family ann)
    else events.Nothing
seen_event asked view event = event

abbrev pub said_of : {S : Type 0} → AskedFor → View → S → List Told → List (Said S)
said_of asked view sender told =
    map (λ one. said sender one.when (seen_event asked view one.event)) told

-- ---- what is told of rows

-- whether it is told of what is held, and not of what is requested, or who is silent or returns
abbrev pub is_of_rows : {S : Type 0} → Telling S → Bool
is_of_rows (tellings.Change told) = true
is_of_rows (tellings.Answer time sender answer before) = true
is_of_rows (tellings.Request time sender to request) = false
is_of_rows (tellings.Silent time sender since routes) = false
is_of_rows (tellings.Returns time sender) = false

-- all that is told of what is held: where addresses are asked for, that is all
abbrev pub of_rows : {S : Type 0} → AskedFor → List (Telling S) → List (Telling S)
of_rows None told = filter is_of_rows told
of_rows (Some pair) told = told

-- ---- answers

-- changes, and the answers that they made
abbrev pub Making : Type 0 → Type 0
Making S = List (Change S) × List (Telling S)

abbrev pub changes_in : {S : Type 0} → List (Making S) → List (Change S)
changes_in makings = flat_map (λ making. making.0) makings

abbrev pub answers_in : {S : Type 0} → List (Making S) → List (Telling S)
answers_in makings = flat_map (λ making. making.1) makings

-- it is of this time and this sender
abbrev pub IsChangeOf : {S : Type 0} → ℕ → S → Change S → Type 0
IsChangeOf time sender told = (told.time ≡ time) × (told.subject.sender ≡ sender)

abbrev pub IsAnswerOf : {S : Type 0} → ℕ → S → Telling S → Type 0
IsAnswerOf time sender told = (answer : Option BestMatch) × (before : Option BestMatch)
    × (told ≡ tellings.Answer time sender answer before)

-- the changes are of one time and one sender, and so are the answers
pub record IsOfOne {S : Type 0} (making : Making S) : Type 0 where
  pub time : ℕ
  pub sender : S
  pub changes : AllByRecursion (IsChangeOf time sender) making.0
  pub answers : AllByRecursion (IsAnswerOf time sender) making.1

-- the key of the two addresses alone
abbrev pub key_alone : Address × Address → RouteKey
key_alone pair = record {
  dst = prefix_at (width_of pair.0.family) pair.0;
  src = prefix_at (width_of pair.1.family) pair.1;
}

module _ {S : Type 0} (cmp : S → S → Ordering) where
  -- what the sender answered last, and nothing before
  abbrev pub answer_after : S → Option BestMatch → Telling S → Option BestMatch
  answer_after sender old (tellings.Change told) = old
  answer_after sender old (tellings.Answer time other answer before) =
      if is_at (cmp sender) other then answer else old
  answer_after sender old (tellings.Request time other to request) = old
  answer_after sender old (tellings.Silent time other since routes) = old
  answer_after sender old (tellings.Returns time other) = old

  abbrev pub answered : List (Telling S) → S → Option BestMatch
  answered told sender = fold (answer_after sender) None told

  -- what the sender answers: the last key up to that of the addresses, and what it announced for it,
  -- where rows are of keys that count alone
  abbrev pub IsAnswer : Address × Address → Rows S → S → Option BestMatch → Type 0
  IsAnswer pair rows sender None = HasNoneUpTo cmp sender (key_alone pair) rows
  IsAnswer pair rows sender (Some best) =
      (row : Row) × IsLastUpTo cmp sender (key_alone pair) rows (best.key, row)
      × (row.ann ≡ best.ann)

  -- an answer, with that before, which is another one
  abbrev pub AnswersAnew : List (Telling S) → Telling S → Type 0
  AnswersAnew earlier (tellings.Change told) = ⊥
  AnswersAnew earlier (tellings.Answer time sender answer before) =
      (answered earlier sender ≡ before) × (before ≢ answer)
  AnswersAnew earlier (tellings.Request time sender to request) = ⊥
  AnswersAnew earlier (tellings.Silent time sender since routes) = ⊥
  AnswersAnew earlier (tellings.Returns time sender) = ⊥

  -- ---- what makes answers

  -- the rows are what the changes say is held
  pub record AreRowsBy (changes : List (Change S)) (rows : Rows S) : Type 0 where
    pub rising : IsStrictlySortedBy (subject_cmp cmp) (keys_of rows)
    pub told : (subject : Subject S)
        → told_by cmp changes subject ≡ option_map (λ row. row.ann) (row_at cmp rows subject)

  -- with these changes, the rows become those after
  abbrev pub KeepsRows : Rows S → List (Change S) → Rows S → Type 0
  KeepsRows rows changes after =
      (before : List (Change S)) → AreRowsBy before rows → AreRowsBy (before ++ changes) after

  -- the rows are what was said last, whenever that was
  abbrev pub AreLastWords : List (Said S) → Rows S → Type 0
  AreLastWords all rows = (subject : Subject S)
      → option_map (λ row. word row.when (helds.Route row.ann)) (row_at cmp rows subject)
      ≡ word_on cmp all subject

  -- the rows are what the changes say is held, and what was said last
  pub record AreLastSaid (all : List (Said S)) (changes : List (Change S)) (rows : Rows S)
      : Type 0 where
    pub are_rows : AreRowsBy changes rows
    pub last : AreLastWords all rows

  -- with what is said, and these changes, the rows become those after
  abbrev pub KeepsSaid : List (Said S) → Rows S → List (Change S) → Rows S → Type 0
  KeepsSaid more rows changes after = (all : List (Said S)) (before : List (Change S))
      → AreLastSaid all before rows → AreLastSaid (all ++ more) (before ++ changes) after

  -- by these changes, the last answer of each sender is what it answers
  pub record Stand (pair : Address × Address) (changes : List (Change S))
      (told : List (Telling S)) (rows : Rows S) : Type 0 where
    pub are_rows : AreRowsBy changes rows
    pub last : (sender : S) → IsAnswer pair rows sender (answered told sender)

  -- The answers are made by the changes: in order, some changes of one sender at one time, and its
  -- answer then, if that is another one. After each of these, and at first, what each sender answered
  -- last is what it answers by the changes so far.
  pub record AreMadeBy (pair : Address × Address) (changes : List (Change S))
      (told : List (Telling S)) : Type 0 where
    pub makings : List (Making S)
    pub changes_are : changes ≡ changes_in makings
    pub told_are : told ≡ answers_in makings
    pub own : AllByRecursion IsOfOne makings
    pub each : (front back : List (Making S)) → makings ≡ front ++ back
        → (rows : Rows S) × Stand pair (changes_in front) (answers_in front) rows

  -- the tellings are answers, each with that before it, and another one; changes made them; and the
  -- last of each sender is what it answers
  pub record AreAnswers (pair : Address × Address) (changes : List (Change S))
      (told : List (Telling S)) (rows : Rows S) : Type 0 where
    pub stand : Stand pair changes told rows
    pub anew : (before after : List (Telling S)) (one : Telling S)
        → told ≡ before ++ one ∷ after → AnswersAnew before one
    pub made : AreMadeBy pair changes told

  -- ---- what is told

  -- each change; or, where addresses are asked for, the answers that these make
  abbrev pub IsTold : AskedFor → List (Change S) → Rows S → Rows S → List (Telling S)
      → List (Telling S) → Type 0
  IsTold None changes rows after old new = new ≡ old ++ map tellings.Change changes
  IsTold (Some pair) changes rows after old new =
      (answers : List (Telling S)) × (new ≡ old ++ answers)
      × ((earlier : List (Change S)) (before : List (Telling S))
      → AreAnswers pair earlier before rows
      → AreAnswers pair (earlier ++ changes) (before ++ answers) after)

  module _ (factor : Option ℕ) where
    -- what ends until this time, in order, and nothing else
    abbrev pub AllEnd : ℕ → Rows S → List (Change S) → Rows S → Type 0
    AllEnd until rows [] after = (rows ≡ after) × AllLast cmp factor until rows
    AllEnd until rows (told ∷ later) after =
        EndsFirst cmp factor rows told.subject told.time × (told.time ≤ until)
        × (Some told ≡ ending kinds.Expired told.time told.subject (row_at cmp rows told.subject))
        × AllEnd until (without cmp told.subject rows) later after

    -- with what is said until this time, and these changes, an account stays one
    abbrev pub KeepsAccount : List (Said S) → ℕ → Rows S → List (Change S) → Rows S → Type 0
    KeepsAccount more time rows changes after =
        (all : List (Said S)) (moment : ℕ) (before : List (Change S)) → moment ≤ time
        → IsAccount cmp factor None all moment before rows
        → IsAccount cmp factor None (all ++ more) time (before ++ changes) after

    module _ (asked : AskedFor) where
      -- what has expired by this time is told
      pub record TellsEnds (until : ℕ) (rows after : Rows S) (old new : List (Telling S))
          : Type 0 where
        pub changes : List (Change S)
        pub ends : AllEnd until rows changes after
        pub told : IsTold asked changes rows after old new

      -- what changes by what is said until this time is told; where nothing expires, whatever the
      -- times of what was said before
      pub record Tells (more : List (Said S)) (time : ℕ) (rows after : Rows S)
          (old new : List (Telling S)) : Type 0 where
        pub changes : List (Change S)
        pub account : KeepsAccount more time rows changes after
        pub said_last : factor ≡ None → KeepsSaid more rows changes after
        pub told : IsTold asked changes rows after old new

      -- the packet, which lies at this offset and came at this time, is TLVs, and what changes by
      -- them is told
      pub record Hears (view : View) (sender : S) (start : Start) (time at : ℕ) (packet : List ℕ)
          (rows after : Rows S) (old new : List (Telling S)) : Type 0 where
        pub tlvs : List TlvAt
        pub rest : List ℕ
        pub whole : packet ≡ packet_octets tlvs ++ rest
        pub placed : ArePlaced (at + 4) tlvs
        pub tells : Tells
            (said_of asked view sender (told_from time (first_context start) tlvs)) time rows
            after old new
