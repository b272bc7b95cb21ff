-- What keeps an account, and what it tells: laws of the definitions.
use Rattle.std.specs.Prelude.{◌≡◌, ◌↔◌, ℕ, ◌≤◌, List, [], ◌∷◌, ◌++◌, Option, Some, None}
use Rattle.std.specs.Prelude.{option_to_list}
use Rattle.std.specs.declared.cmp.Ordering.{Ordering}
use Rattle.std.specs.BTreeMap.{insert_entry, is_at}
use Rattle.std.specs.Map.{remove_entry}
use Rattle.babel_tlv.specs.declared.event.Event.{Event}
use Rattle.babel_tlv.specs.declared.event.Event.TheVariants as events
use Rattle.babel_tlv.specs.declared.mode.Mode.TheVariants as modes
use Rattle.babel_tlv.specs.Route.{RouteKey, Announcement}
use Rattle.babel_table.specs.Moments.{Stamp, Word, word_after}
use Rattle.babel_timeline.specs.declared.change.Change.{Change}
use Rattle.babel_timeline.specs.declared.change.ChangeKind.TheVariants as kinds
use Rattle.babel_timeline.specs.declared.row.Row.{Row}
use Rattle.babel_timeline.specs.declared.subject.Subject.{Subject}
use Rattle.babel_timeline.specs.Accounts.{IsAccount, IsHeldAt, Said, SayEach, said, said_by}
use Rattle.babel_timeline.specs.Changes.{TellsAnnouncement, before, ending, from_on, told_by}
use Rattle.babel_timeline.specs.Changes.{turned_by, up_to}
use Rattle.babel_timeline.specs.Rows.{AllLast, EndsFirst, HasNone, Rows, row_at, subject_cmp}

-- the rows without that of the subject
abbrev pub without : {S : Type 0} → (S → S → Ordering) → Subject S → Rows S → Rows S
without cmp subject rows = remove_entry (is_at (subject_cmp cmp subject)) rows

module _ {S : Type 0} (cmp : S → S → Ordering) (factor : Option ℕ) where
  -- an account of what was said up to a moment; of one sender all may be about to be retracted
  abbrev Account : Option S → List (Said S) → ℕ → List (Change S) → Rows S → Type 0
  Account = IsAccount cmp factor

  -- all that ends by this time has been told of, and the account is of no later moment
  abbrev IsTime : ℕ → ℕ → Rows S → Type 0
  IsTime moment time rows = (moment ≤ time) × AllLast cmp factor time rows

  -- from nothing on
  abbrev pub BeginsAccount : Type 0
  BeginsAccount = Account None [] 0 [] []

  -- what is announced, once all that ends by then has been told of
  abbrev pub AnnouncingKeepsAccount : Type 0
  AnnouncingKeepsAccount = (all : List (Said S)) (moment : ℕ) (changes : List (Change S))
      (rows : Rows S) (subject : Subject S) (row : Row) (told : Option (Change S))
      → Account None all moment changes rows → IsTime moment row.when.time rows
      → TellsAnnouncement row.when.time subject (row_at cmp rows subject) row.ann told
      → Account None
      (all ++ said subject.sender row.when (events.Announce subject.key row.ann) ∷ [])
      row.when.time (changes ++ option_to_list told)
      (insert_entry (subject_cmp cmp) rows subject row)

  -- what is retracted for one key
  abbrev pub RetractingKeepsAccount : Type 0
  RetractingKeepsAccount = (all : List (Said S)) (moment : ℕ) (changes : List (Change S))
      (rows : Rows S) (subject : Subject S) (when : Stamp)
      → Account None all moment changes rows → IsTime moment when.time rows
      → Account None (all ++ said subject.sender when (events.Retract subject.key) ∷ []) when.time
      (changes ++ option_to_list (ending kinds.Retracted when.time subject
      (row_at cmp rows subject)))
      (without cmp subject rows)

  -- what retracts all of a sender, and each row of it that goes then, until none is left
  abbrev pub RetractingAllKeepsAccount : Type 0
  RetractingAllKeepsAccount = (all : List (Said S)) (moment : ℕ) (changes : List (Change S))
      (rows : Rows S) (sender : S) (when : Stamp)
      → Account None all moment changes rows → IsTime moment when.time rows
      → Account (Some sender) (all ++ said sender when events.RetractAll ∷ []) when.time changes
      rows

  abbrev pub EachRetractedKeepsAccount : Type 0
  EachRetractedKeepsAccount = (all : List (Said S)) (moment : ℕ) (changes : List (Change S))
      (rows : Rows S) (subject : Subject S) (told : Change S)
      → Account (Some subject.sender) all moment changes rows
      → Some told ≡ ending kinds.Retracted moment subject (row_at cmp rows subject)
      → Account (Some subject.sender) all moment (changes ++ told ∷ []) (without cmp subject rows)

  abbrev pub AllRetractedKeepsAccount : Type 0
  AllRetractedKeepsAccount = (all : List (Said S)) (moment : ℕ) (changes : List (Change S))
      (rows : Rows S) (sender : S)
      → Account (Some sender) all moment changes rows → HasNone cmp sender rows
      → Account None all moment changes rows

  -- what speaks of no key
  abbrev pub SilenceKeepsAccount : Type 0
  SilenceKeepsAccount = (all : List (Said S)) (moment : ℕ) (changes : List (Change S))
      (rows : Rows S) (sender : S) (when : Stamp) (event : Event)
      → Account None all moment changes rows → IsTime moment when.time rows
      → ((key : RouteKey) (old : Option Word) → word_after modes.Plain 0 key when event old ≡ old)
      → Account None (all ++ said sender when event ∷ []) when.time changes rows

  -- what ends first
  abbrev pub ExpiringKeepsAccount : Type 0
  ExpiringKeepsAccount = (all : List (Said S)) (moment : ℕ) (changes : List (Change S))
      (rows : Rows S) (subject : Subject S) (time : ℕ) (told : Change S)
      → Account None all moment changes rows → EndsFirst cmp factor rows subject time
      → Some told ≡ ending kinds.Expired time subject (row_at cmp rows subject)
      → Account None all time (changes ++ told ∷ []) (without cmp subject rows)

  -- before the moment of an account, the changes up to each earlier one say what is held then, of
  -- what was said up to it
  abbrev pub ChangesSayEach : Type 0
  ChangesSayEach = (all : List (Said S)) (moment : ℕ) (changes : List (Change S)) (rows : Rows S)
      → Account None all moment changes rows → SayEach cmp factor moment all changes

  -- once all that ends by a moment has been told of, the changes say what is held at that moment
  abbrev pub ChangesSayWhatIsHeld : Type 0
  ChangesSayWhatIsHeld = (all : List (Said S)) (moment later : ℕ) (changes : List (Change S))
      (rows : Rows S) (subject : Subject S) (ann : Announcement)
      → Account None all moment changes rows → IsTime moment later rows
      → (told_by cmp changes subject ≡ Some ann)
      ↔ IsHeldAt factor later (said_by cmp subject.sender all) subject.key ann

  -- the changes from a moment on, up to a later one, turn what those before it say is held into what
  -- all say up to then
  abbrev pub LaterChangesTurnRows : Type 0
  LaterChangesTurnRows = (all : List (Said S)) (moment : ℕ) (changes : List (Change S))
      (rows : Rows S) (since later : ℕ) (subject : Subject S)
      → Account None all moment changes rows → since ≤ later
      → turned_by cmp (told_by cmp (before since changes) subject)
      (from_on since (up_to later changes)) subject ≡ told_by cmp (up_to later changes) subject
