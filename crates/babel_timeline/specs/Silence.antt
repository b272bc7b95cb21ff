-- Which senders are silent: RFC 8966, 3.4.1, appendix A.1. A Hello is here a multicast one that says
-- when the next one comes; a sender is watched from its first such Hello on.
use Rattle.std.specs.Prelude.{◌≡◌, ◌↔◌, ℕ, ◌≤◌, ◌<◌, Bool, true, not, ◌&&◌, ◌||◌}
use Rattle.std.specs.Prelude.{if◌then◌else◌, List, [], ◌∷◌, ◌++◌, fold, length, Option, Some, None, IsSome}
use Rattle.std.specs.declared.cmp.Ordering.{Ordering}
use Rattle.std.specs.declared.cmp.Ordering.TheVariants.{Less}
use Rattle.std.specs.BTreeMap.{is_at}
use Rattle.std.specs.BTreeSet.{BTreeSet, contains}
use Rattle.std.specs.List.{filter}
use Rattle.std.specs.List.Sorted.{IsStrictlySortedBy}
use Rattle.std.specs.Map.{keys_of}
use Rattle.std.specs.Option.{option_map}
use Rattle.babel_prefix.specs.declared.family.Family.TheVariants.{V4}
use Rattle.babel_prefix.specs.Address.{whole_family}
use Rattle.babel_tlv.specs.Route.{RouteKey}
use Rattle.babel_table.specs.Moments.{Stamp, end_after}
use Rattle.babel_timeline.specs.declared.watch.Silence.{Silence}
use Rattle.babel_timeline.specs.Accounts.{HasExpired}
use Rattle.babel_timeline.specs.declared.subject.Subject.{Subject}
use Rattle.babel_timeline.specs.Rows.{Held, Rows, row_at, subject_cmp, subject_of}

-- ---- what silent is

-- for so many ten-millionths of its Interval a Hello is waited for: 3.5 times as long
abbrev pub patience : ℕ
patience = 35000000

module _ {S : Type 0} (cmp : S → S → Ordering) where
  -- the last of a sender's Hellos, of those that came of all senders in this order
  abbrev pub last_hello : List (S × Stamp) → S → Option Stamp
  last_hello hellos sender =
      fold (λ last one. if is_at (cmp one.0) sender then Some one.1 else last) None hellos

  -- the sender is silent: its last Hello came 3.5 times its Interval before the moment, or earlier
  abbrev pub IsSilentAt : ℕ → List (S × Stamp) → S → Type 0
  IsSilentAt moment hellos sender = (hello : Stamp)
      × (last_hello hellos sender ≡ Some hello) × HasExpired (Some patience) moment hello

-- how many rows a sender has
abbrev pub row_count : {S X : Type 0} → (S → S → Ordering) → S → List (Subject S × X) → ℕ
row_count cmp sender rows = length (filter (λ row. is_at (cmp sender) row.0.sender) rows)

-- ---- who is watched

-- the key of the rows that stand for Hellos
abbrev pub hello_key : RouteKey
hello_key = record { dst = whole_family V4; src = whole_family V4 }

-- the last Hello of each sender that is not silent, kept as a row that ends as an announcement does;
-- and the senders that are silent
pub record Watching (S : Type 0) : Type 0 where
  pub rows : Rows S
  pub silent : BTreeSet S

module _ {S : Type 0} (cmp : S → S → Ordering) where
  -- the last Hello of a sender that is watched and not silent
  abbrev pub awaited : Watching S → S → Option Stamp
  awaited watching sender =
      option_map (λ row. row.when) (row_at cmp watching.rows (subject_of sender hello_key))

  abbrev pub is_silent : Watching S → S → Bool
  is_silent watching sender = contains cmp watching.silent sender

  -- the rows stand for Hellos: they end as Hellos are waited for no more, and are of one key
  pub record AreHellos (hellos : Held S) : Type 0 where
    pub factor : hellos.factor ≡ Some patience
    pub rising : IsStrictlySortedBy (subject_cmp cmp) (keys_of hellos.rows)
    pub of_key : (subject : Subject S) → IsSome (row_at cmp hellos.rows subject)
        → subject.key ≡ hello_key

  -- the Hello of a sender is the one that is waited for, and the sender is not silent
  pub record TakesHello (sender : S) (hello : Stamp) (old new : Watching S) : Type 0 where
    pub awaited_is : (other : S) → awaited new other
        ≡ (if is_at (cmp sender) other then Some hello else awaited old other)
    pub silent_is : (other : S) → is_silent new other
        ≡ (not (is_at (cmp sender) other) && is_silent old other)

  -- nobody falls silent by this time
  abbrev pub NoneFallsSilent : ℕ → Watching S → Type 0
  NoneFallsSilent until watching = (sender : S) (hello : Stamp) (time : ℕ)
      → awaited watching sender ≡ Some hello → end_after patience hello ≡ Some time → until < time

  -- a sender falls silent, before all others: of one time, by sender
  pub record FallsSilent (silence : Silence S) (old new : Watching S) : Type 0 where
    pub hello : Stamp
    pub last : awaited old silence.sender ≡ Some hello
    pub since : silence.since ≡ hello.time
    pub time : end_after patience hello ≡ Some silence.time
    pub first : (other : S) (later : Stamp) (time : ℕ) → awaited old other ≡ Some later
        → end_after patience later ≡ Some time → silence.time ≤ time
        × (silence.time ≡ time → ¬ (cmp other silence.sender ≡ Less))
    pub awaited_is : (other : S) → awaited new other
        ≡ (if is_at (cmp silence.sender) other then None else awaited old other)
    pub silent_is : (other : S) → is_silent new other
        ≡ (is_at (cmp silence.sender) other || is_silent old other)

  -- ---- laws

  -- of the senders of these Hellos, those that are told to be silent are, and of the others the last
  -- Hello is waited for
  pub record IsWatch (hellos : List (S × Stamp)) (moment : ℕ) (watching : Watching S) : Type 0 where
    pub awaited_is : (sender : S) → awaited watching sender
        ≡ (if is_silent watching sender then None else last_hello cmp hellos sender)
    pub silent_is : (sender : S) → is_silent watching sender ≡ true
        → IsSilentAt cmp moment hellos sender

  abbrev pub BeginsWatch : Type 0
  BeginsWatch = IsWatch [] 0 (record { rows = []; silent = record { keys = [] } })

  abbrev pub HelloKeepsWatch : Type 0
  HelloKeepsWatch = (hellos : List (S × Stamp)) (moment : ℕ) (old new : Watching S) (sender : S)
      (hello : Stamp) → IsWatch hellos moment old → moment ≤ hello.time
      → TakesHello sender hello old new
      → IsWatch (hellos ++ (sender, hello) ∷ []) hello.time new

  abbrev pub SilenceKeepsWatch : Type 0
  SilenceKeepsWatch = (hellos : List (S × Stamp)) (moment until : ℕ) (old new : Watching S)
      (silence : Silence S) → IsWatch hellos moment old → moment ≤ until → silence.time ≤ until
      → FallsSilent silence old new → IsWatch hellos until new

  -- once all are told that fall silent by a time, those that are silent then have been told
  abbrev pub SilentAreTold : Type 0
  SilentAreTold = (hellos : List (S × Stamp)) (moment until : ℕ) (watching : Watching S)
      → IsWatch hellos moment watching → moment ≤ until → NoneFallsSilent until watching
      → (sender : S) → (is_silent watching sender ≡ true) ↔ IsSilentAt cmp until hellos sender
