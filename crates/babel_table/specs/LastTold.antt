-- What is held at a moment, in other words: by the last that was said of a key, and by what was
-- said of it since it was last named. This project's own; laws say that it is the same.
use Rattle.std.specs.Prelude.{◌≡◌, ◌↔◌, ℕ, ◌<◌, ◌≤◌, ◌+◌, ◌*◌, Bool, true, false, filter}
use Rattle.std.specs.Prelude.{List, [], ◌∷◌, ◌++◌}
use Rattle.std.specs.List.{AllByRecursion, Contains}
use Rattle.babel_tlv.specs.declared.event.Event.{Event}
use Rattle.babel_tlv.specs.declared.event.Event.TheVariants as events
use Rattle.babel_tlv.specs.declared.held.Held.{Held}
use Rattle.babel_tlv.specs.declared.held.Held.TheVariants as helds
use Rattle.babel_tlv.specs.declared.mode.Mode.TheVariants as modes
use Rattle.babel_tlv.specs.Route.{RouteKey, Announcement}
use Rattle.babel_table.specs.Holds.{Names}
use Rattle.babel_table.specs.Moments.{AreRowsAt, HoldsAt, Told, Stamp}

-- the event announces or retracts the key, or retracts all
abbrev pub SpeaksOf : RouteKey → Event → Type 0
SpeaksOf key events.RetractAll = Unit {0}
SpeaksOf key event = Names key event

-- this is the last of what was told that is so
pub record IsLast (Is : Event → Type 0) (told : List Told) (word : Told) : Type 0 where
  pub before : List Told
  pub after : List Told
  pub whole : told ≡ before ++ word ∷ after
  pub is : Is word.event
  pub none : AllByRecursion (λ later. ¬ Is later.event) after

-- this has expired at the moment: so many times the Interval have passed
abbrev pub HasExpired : ℕ → ℕ → Stamp → Type 0
HasExpired factor moment when =
    (0 < when.interval) × (when.time + factor * when.interval ≤ moment)

-- the last that was told of the key announces this, and has not expired
pub record Lasts (factor moment : ℕ) (told : List Told) (key : RouteKey)
    (ann : Announcement) : Type 0 where
  pub when : Stamp
  pub last : IsLast (SpeaksOf key) told (record { when = when; event = events.Announce key ann })
  pub lasts : ¬ HasExpired factor moment when

-- in mode Plain a route is held at the moment where it lasts, and nothing else is
abbrev pub PlainIsLast : Type 0
PlainIsLast = (factor moment : ℕ) (told : List Told) (key : RouteKey)
    → ((ann : Announcement) → HoldsAt modes.Plain factor moment told key (helds.Route ann)
    ↔ Lasts factor moment told key ann)
    × ¬ HoldsAt modes.Plain factor moment told key helds.Unreachable

-- ---- mode Hold

-- RFC 8966, 3.5.3: a route that has expired is unreachable, and gone after as long again; what was
-- retracted is gone once it has expired
abbrev pub IsGone : ℕ → ℕ → Stamp → Event → Type 0
IsGone factor moment when (events.Announce key ann) = HasExpired (2 * factor) moment when
IsGone factor moment when event = HasExpired factor moment when

-- this is not gone when the next of these comes, nor any of them when the one after it comes, nor
-- the last at the moment
abbrev pub AllStay : ℕ → ℕ → Told → List Told → Type 0
AllStay factor moment one [] = ¬ IsGone factor moment one.when one.event
AllStay factor moment one (next ∷ later) =
    ¬ IsGone factor next.when.time one.when one.event × AllStay factor moment next later

abbrev pub retracts_all : Event → Bool
retracts_all events.RetractAll = true
retracts_all event = false

-- the key was announced or retracted by itself, and neither the last that did so nor a retraction
-- of all after it was gone when the next one came, or at the moment
pub record Stays (factor moment : ℕ) (told : List Told) (key : RouteKey) : Type 0 where
  pub named : Told
  pub last : IsLast (Names key) told named
  pub stay : AllStay factor moment named (filter (λ one. retracts_all one.event) last.after)

-- in mode Hold a row at the moment is a route that lasts, or else unreachable, where the key stays;
-- a key that does not stay is gone
pub record AreHoldRows (factor moment : ℕ) (told : List Told)
    (rows : List (RouteKey × Held)) : Type 0 where
  pub route : (key : RouteKey) (ann : Announcement) → Contains rows (key, helds.Route ann)
      ↔ Lasts factor moment told key ann
  pub unreachable : (key : RouteKey) → Contains rows (key, helds.Unreachable)
      ↔ (Stays factor moment told key × ((ann : Announcement) → ¬ Lasts factor moment told key ann))
  pub gone : (key : RouteKey) → ((held : Held) → ¬ Contains rows (key, held))
      ↔ ¬ Stays factor moment told key

abbrev pub HoldIsLast : Type 0
HoldIsLast = (factor moment : ℕ) (told : List Told) (rows : List (RouteKey × Held))
    → AreRowsAt modes.Hold factor moment told rows → AreHoldRows factor moment told rows
