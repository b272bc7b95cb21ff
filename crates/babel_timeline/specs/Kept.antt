-- How the rows that end are queued: this project's own. A row that is announced again stays where it
-- is queued, and is queued for its own end once it comes first.
use Rattle.std.specs.Prelude.{◌≡◌, ℕ, ◌<◌, ◌≤◌, Bool, true, false, ◌==◌, ◌&&◌, length, Option, Some, None}
use Rattle.std.specs.declared.cmp.Ordering.{Ordering}
use Rattle.std.specs.BTreeMap.{BTreeMap, is_at}
use Rattle.std.specs.BTreeSet.{BTreeSet, contains}
use Rattle.std.specs.Map.{keys_of, lookup}
use Rattle.babel_timeline.specs.declared.entry.Entry.{Entry}
use Rattle.babel_timeline.specs.declared.queue.Expiry.{Expiry}
use Rattle.babel_timeline.specs.declared.subject.Subject.{Subject}
use Rattle.babel_timeline.specs.Places.{Entries}
use Rattle.babel_timeline.specs.Rows.{end_of, expiry_cmp, subject_cmp, subject_of}

-- this is the time, if there is one
abbrev pub is_time : Option ℕ → ℕ → Bool
is_time None time = false
is_time (Some end) time = end == time

-- there is a time, and it is this one at the latest
abbrev pub IsBy : ℕ → Option ℕ → Type 0
IsBy latest None = ⊥
IsBy latest (Some time) = time ≤ latest

-- the time for which an entry is queued, if there is one
abbrev pub queued_at : Option Entry → Option ℕ
queued_at None = None
queued_at (Some entry) = entry.queued

-- an entry whose row ends is queued, for no later
abbrev pub IsInTime : Option ℕ → Entry → Type 0
IsInTime factor entry =
    (time : ℕ) → end_of factor entry.row.when ≡ Some time → IsBy time entry.queued

-- the subject of an expiry
abbrev pub expiring : {S : Type 0} → Expiry S → Subject S
expiring expiry = subject_of expiry.sender expiry.key

-- the keys of a map
abbrev pub keys_in : {K X : Type 0} → BTreeMap K X → BTreeSet K
keys_in map = record { keys = keys_of map.entries }

-- what is queued
pub record Waiting (S : Type 0) : Type 0 where
  pub expiries : BTreeSet (Expiry S)

module _ {S : Type 0} (cmp : S → S → Ordering) where
  abbrev pub entry_of : Entries S → Subject S → Option Entry
  entry_of entries subject = lookup (is_at (subject_cmp cmp subject)) entries

  -- that the subject is queued for this time, if it is
  abbrev pub is_expiry : Subject S → Option ℕ → Expiry S → Bool
  is_expiry subject end expiry =
      is_time end expiry.time && is_at (subject_cmp cmp subject) (expiring expiry)

  -- nothing is queued up to this time
  abbrev pub NoneBy : ℕ → BTreeSet (Expiry S) → Type 0
  NoneBy until expiries = (expiry : Expiry S)
      → contains (expiry_cmp cmp) expiries expiry ≡ true → until < expiry.time

  -- nothing is queued before this time
  abbrev pub IsSoonest : ℕ → BTreeSet (Expiry S) → Type 0
  IsSoonest time expiries = (expiry : Expiry S)
      → contains (expiry_cmp cmp) expiries expiry ≡ true → time ≤ expiry.time

  -- its subject's entry is queued for its time
  abbrev pub is_due : Entries S → Expiry S → Bool
  is_due entries expiry = is_time (queued_at (entry_of entries (expiring expiry))) expiry.time

  -- entries are queued in time
  pub record AreQueued (factor : Option ℕ) (entries : Entries S) (expiries : BTreeSet (Expiry S))
      : Type 0 where
    pub queued : (expiry : Expiry S)
        → contains (expiry_cmp cmp) expiries expiry ≡ is_due entries expiry
    pub in_time : (subject : Subject S) (entry : Entry) → entry_of entries subject ≡ Some entry
        → IsInTime factor entry

  -- there are at most so many entries, and they are queued
  pub record IsKept (factor : Option ℕ) (limit : ℕ) (entries : Entries S)
      (expiries : BTreeSet (Expiry S)) : Type 0 where
    pub few : length entries ≤ limit
    pub queue : AreQueued factor entries expiries
