-- How changes account for what was said: this project's own.
use Rattle.std.specs.Prelude.{◌≡◌, ◌≢◌, ◌↔◌, ℕ, ◌<◌, ◌≤◌, nat_le, List, ◌∷◌, ◌++◌, map, Option}
use Rattle.std.specs.Prelude.{Some, None, IfSome, ◌⊎◌}
use Rattle.std.specs.List.{AllByRecursion, Contains, filter}
use Rattle.std.specs.List.Sorted.{IsStrictlySortedBy}
use Rattle.std.specs.Option.{option_map}
use Rattle.std.specs.Map.{keys_of}
use Rattle.std.specs.declared.cmp.Ordering.{Ordering}
use Rattle.std.specs.BTreeMap.{is_at}
use Rattle.babel_tlv.specs.declared.event.Event.{Event}
use Rattle.babel_tlv.specs.declared.event.Event.TheVariants as events
use Rattle.babel_tlv.specs.declared.held.Held.TheVariants as helds
use Rattle.babel_tlv.specs.Route.{RouteKey, Announcement}
use Rattle.babel_tlv.specs.declared.mode.Mode.TheVariants as modes
use Rattle.babel_table.specs.Moments.{HoldsAt, Told, Stamp, Word, last_word, word}
use Rattle.babel_timeline.specs.declared.change.Change.{Change}
use Rattle.babel_timeline.specs.declared.change.ChangeKind.{ChangeKind}
use Rattle.babel_timeline.specs.declared.change.ChangeKind.TheVariants as kinds
use Rattle.babel_timeline.specs.declared.row.Row.{Row}
use Rattle.babel_timeline.specs.declared.subject.Subject.{Subject}
use Rattle.babel_timeline.specs.Changes.{held_after, held_before, told_by, up_to}
use Rattle.babel_timeline.specs.Rows.{Ends, Rows, end_of, row_at, subject_cmp}

-- ---- what is held at a moment

-- this is held for the key at the moment. Where no factor is given, nothing expires
abbrev pub IsHeldAt : Option ℕ → ℕ → List Told → RouteKey → Announcement → Type 0
IsHeldAt None moment told key ann =
    option_map (λ said. said.held) (last_word modes.Plain 0 told key) ≡ Some (helds.Route ann)
IsHeldAt (Some factor) moment told key ann =
    HoldsAt modes.Plain factor moment told key (helds.Route ann)

-- what was said then has expired at the moment
pub record HasExpired (factor : Option ℕ) (moment : ℕ) (when : Stamp) : Type 0 where
  pub time : ℕ
  pub end : end_of factor when ≡ Some time
  pub past : time ≤ moment

-- a row is the last word on its key, or there is none since that word has expired
abbrev pub IsLeft : Option ℕ → ℕ → Option Row → Option Word → Type 0
IsLeft factor moment None (Some said) = HasExpired factor moment said.when
IsLeft factor moment row said =
    option_map (λ row. word row.when (helds.Route row.ann)) row ≡ said

-- ---- what many senders say

pub record Said (S : Type 0) : Type 0 where
  pub sender : S
  pub told : Told

abbrev pub said : {S : Type 0} → S → Stamp → Event → Said S
said sender when event =
    record { sender = sender; told = record { when = when; event = event } }

-- what was said up to a moment
abbrev pub said_up_to : {S : Type 0} → ℕ → List (Said S) → List (Said S)
said_up_to moment all = filter (λ one. nat_le one.told.when.time moment) all

-- it takes the key back, or all
abbrev pub TakesBack : RouteKey → Event → Type 0
TakesBack key event = (event ≡ events.Retract key) ⊎ (event ≡ events.RetractAll)

-- What was told makes this of a key at a time: it announces the key then, or takes it back then; or
-- it announced what was held, which ends then.
abbrev pub Makes : Option ℕ → ℕ → RouteKey → ChangeKind → Told → Type 0
Makes factor time key (kinds.Announced now) told =
    (told.when.time ≡ time) × (told.event ≡ events.Announce key now)
Makes factor time key (kinds.Changed before now) told =
    (told.when.time ≡ time) × (told.event ≡ events.Announce key now)
Makes factor time key (kinds.Retracted before) told =
    (told.when.time ≡ time) × TakesBack key told.event
Makes factor time key (kinds.Expired before) told =
    (end_of factor told.when ≡ Some time) × (told.event ≡ events.Announce key before)

-- a change is made by something that its sender said
pub record IsMade {S : Type 0} (factor : Option ℕ) (all : List (Said S)) (told : Change S)
    : Type 0 where
  pub one : Said S
  pub said : Contains all one
  pub own : one.sender ≡ told.subject.sender
  pub makes : Makes factor told.time told.subject.key told.kind one.told

-- at this time all of a sender was retracted
abbrev pub WasRetracted : {S : Type 0} → ℕ → List (Said S) → S → Type 0
WasRetracted time all sender =
    (when : Stamp) × (when.time ≡ time) × Contains all (said sender when events.RetractAll)

-- of this sender all is about to be retracted
abbrev pub IsLeaving : {S : Type 0} → Option S → S → Type 0
IsLeaving None sender = ⊥
IsLeaving (Some leaving) sender = sender ≡ leaving

module _ {S : Type 0} (cmp : S → S → Ordering) where
  -- what one of them says
  abbrev pub said_by : S → List (Said S) → List Told
  said_by sender all = map (λ one. one.told) (filter (λ one. is_at (cmp sender) one.sender) all)

  -- the last word on a subject, which in mode Plain is the same by any factor
  abbrev pub word_on : List (Said S) → Subject S → Option Word
  word_on all subject = last_word modes.Plain 0 (said_by subject.sender all) subject.key

  -- ---- accounts

  -- after the changes before it, a change tells what was held, changes it, and does not come before
  -- them
  pub record Turns (before : List (Change S)) (told : Change S) : Type 0 where
    pub was : told_by cmp before told.subject ≡ held_before told.kind
    pub changes : told_by cmp before told.subject ≢ held_after told.kind
    pub in_time : AllByRecursion (λ earlier. earlier.time ≤ told.time) before

  -- each change turns
  abbrev pub EachTurns : List (Change S) → Type 0
  EachTurns changes = (before after : List (Change S)) (told : Change S)
      → changes ≡ before ++ told ∷ after → Turns before told

  -- at each moment before this one, the changes up to it say exactly what is held then, of what was
  -- said up to it
  abbrev pub SayEach : Option ℕ → ℕ → List (Said S) → List (Change S) → Type 0
  SayEach factor moment all changes = (earlier : ℕ) (subject : Subject S) (ann : Announcement)
      → earlier < moment → (told_by cmp (up_to earlier changes) subject ≡ Some ann)
      ↔ IsHeldAt factor earlier (said_by subject.sender (said_up_to earlier all)) subject.key ann

  -- the changes up to the moment account for the rows, and the rows are what is left then of what
  -- was said, but for a sender of whom all is about to be retracted
  pub record IsAccount (factor : Option ℕ) (leaving : Option S) (all : List (Said S)) (moment : ℕ)
      (changes : List (Change S)) (rows : Rows S) : Type 0 where
    pub rising : IsStrictlySortedBy (subject_cmp cmp) (keys_of rows)
    pub told : (subject : Subject S)
        → told_by cmp changes subject ≡ option_map (λ row. row.ann) (row_at cmp rows subject)
    pub turns : EachTurns changes
    pub past : AllByRecursion (λ told. told.time ≤ moment) changes
    pub left : (subject : Subject S) → ¬ IsLeaving leaving subject.sender
        → IsLeft factor moment (row_at cmp rows subject) (word_on all subject)
    pub gone : (subject : Subject S) → IsLeaving leaving subject.sender
        → word_on all subject ≡ None
    pub ahead : (subject : Subject S) (time : ℕ) → Ends cmp factor rows subject time
        → moment ≤ time
    pub heard : AllByRecursion (λ one. one.told.when.time ≤ moment) all
    pub each : SayEach factor moment all changes
    pub made : AllByRecursion (IsMade factor all) changes
    pub leaves : IfSome leaving (WasRetracted moment all)
