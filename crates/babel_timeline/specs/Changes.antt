-- What changes say: this project's own.
use Rattle.std.specs.Prelude.{◌≡◌, ◌≢◌, ℕ, if◌then◌else◌, List, Option, Some, None, fold}
use Rattle.std.specs.Prelude.{nat_le, not}
use Rattle.std.specs.List.{filter}
use Rattle.std.specs.Option.{option_map}
use Rattle.std.specs.declared.cmp.Ordering.{Ordering}
use Rattle.std.specs.BTreeMap.{is_at}
use Rattle.babel_tlv.specs.Route.{Announcement}
use Rattle.babel_timeline.specs.declared.change.Change.{Change}
use Rattle.babel_timeline.specs.declared.change.ChangeKind.{ChangeKind}
use Rattle.babel_timeline.specs.declared.change.ChangeKind.TheVariants as kinds
use Rattle.babel_timeline.specs.declared.row.Row.{Row}
use Rattle.babel_timeline.specs.declared.subject.Subject.{Subject}
use Rattle.babel_timeline.specs.Rows.{subject_cmp}

-- what was held before a change, and what is after it
abbrev pub held_before : ChangeKind → Option Announcement
held_before (kinds.Announced ann) = None
held_before (kinds.Changed before now) = Some before
held_before (kinds.Retracted before) = Some before
held_before (kinds.Expired before) = Some before

abbrev pub held_after : ChangeKind → Option Announcement
held_after (kinds.Announced ann) = Some ann
held_after (kinds.Changed before now) = Some now
held_after (kinds.Retracted before) = None
held_after (kinds.Expired before) = None

abbrev pub change : {S : Type 0} → ℕ → Subject S → ChangeKind → Change S
change time subject kind = record { time = time; subject = subject; kind = kind }

-- how what is held for a subject goes, if anything is: it is retracted, or it expires
abbrev pub ending : {S : Type 0} → (Announcement → ChangeKind) → ℕ → Subject S → Option Row
    → Option (Change S)
ending kind time subject held = option_map (λ row. change time subject (kind row.ann)) held

-- what an announcement changes where this was held: nothing if the same was announced before
abbrev pub TellsAnnouncement : {S : Type 0} → ℕ → Subject S → Option Row → Announcement
    → Option (Change S) → Type 0
TellsAnnouncement time subject None ann told =
    told ≡ Some (change time subject (kinds.Announced ann))
TellsAnnouncement time subject (Some row) ann None = row.ann ≡ ann
TellsAnnouncement time subject (Some row) ann (Some told) =
    (row.ann ≢ ann) × (told ≡ change time subject (kinds.Changed row.ann ann))

-- what changes make of what was held for a subject: what the last of them says
abbrev pub turned_by : {S : Type 0} → (S → S → Ordering) → Option Announcement → List (Change S)
    → Subject S → Option Announcement
turned_by cmp before changes subject =
    fold (λ held told. if is_at (subject_cmp cmp subject) told.subject
    then held_after told.kind else held) before changes

-- what changes say is held for a subject, where nothing was before any
abbrev pub told_by : {S : Type 0} → (S → S → Ordering) → List (Change S) → Subject S
    → Option Announcement
told_by cmp changes subject = turned_by cmp None changes subject

-- the changes up to a moment, before one, and from one on
abbrev pub up_to : {S : Type 0} → ℕ → List (Change S) → List (Change S)
up_to moment changes = filter (λ told. nat_le told.time moment) changes

abbrev pub before : {S : Type 0} → ℕ → List (Change S) → List (Change S)
before moment changes = filter (λ told. not (nat_le moment told.time)) changes

abbrev pub from_on : {S : Type 0} → ℕ → List (Change S) → List (Change S)
from_on moment changes = filter (λ told. nat_le moment told.time) changes
