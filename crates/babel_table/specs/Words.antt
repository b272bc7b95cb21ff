-- How rows keep when their words came: this project's own. Each row has the mark of its word, which
-- is how many stamps there were once it was put; the last of them is its own.
use Rattle.std.specs.Prelude.{◌≡◌, ℕ, zero, suc, ◌≤◌, ◌+◌, Bool, true, false, not, ◌&&◌, List, []}
use Rattle.std.specs.Prelude.{◌∷◌, ◌++◌, length, slice_index_or, Option, Some, None, nat_lt, ◌||◌}
use Rattle.std.specs.Prelude.{if◌then◌else◌}
use Rattle.std.specs.List.{filter, flat_map}
use Rattle.std.specs.Option.{option_map}
use Rattle.std.specs.BTreeMap.{insert_entry, is_at}
use Rattle.std.specs.Map.{remove_entry}
use Rattle.babel_tlv.specs.declared.event.Event.{Event}
use Rattle.babel_tlv.specs.declared.event.Event.TheVariants as events
use Rattle.babel_tlv.specs.declared.held.Held.{Held}
use Rattle.babel_tlv.specs.declared.held.Held.TheVariants as helds
use Rattle.babel_tlv.specs.declared.mode.Mode.{Mode}
use Rattle.babel_tlv.specs.declared.mode.Mode.TheVariants as modes
use Rattle.babel_tlv.specs.declared.start.Start.{Start}
use Rattle.babel_tlv.specs.Framing.{TlvAt, ArePackets, packet_octets}
use Rattle.babel_tlv.specs.Route.{RouteKey}
use Rattle.babel_tlv.specs.Keys.{key_cmp}
use Rattle.babel_table.specs.Moments.{AreRowsAt, Told, Stamp, Word, has_expired, left_at, told_in}
use Rattle.babel_table.specs.Moments.{update_interval, word}

-- ---- stamps

-- retractions of all: the first after each word that may still be found, with the mark of the last
-- word before it; whether a word came since the last one; what words with marks below `gone` left
-- is gone; and the last one
pub record Wiping : Type 0 where
  pub firsts : List (ℕ × Stamp)
  pub due : Bool
  pub gone : ℕ
  pub last : Stamp

-- whether times are kept, how long words last, when the next one comes, the stamps so far, and the
-- retractions of all
pub record Timing : Type 0 where
  pub runs : Bool
  pub factor : ℕ
  pub when : Stamp
  pub stamps : List Stamp
  pub wiping : Wiping

abbrev pub no_stamp : Stamp
no_stamp = record { time = 0; interval = 0 }

abbrev pub no_wiping : Wiping
no_wiping = record { firsts = []; due = false; gone = 1; last = no_stamp }

-- the first retraction of all after a mark
abbrev pub first_after : ℕ → List (ℕ × Stamp) → Option Stamp
first_after mark [] = None
first_after mark (first ∷ later) =
    if nat_lt first.0 mark then first_after mark later else Some first.1

-- that, if what it left is still there at the moment
abbrev pub found_at : Wiping → ℕ → ℕ → ℕ → Option Stamp
found_at wiping factor moment mark =
    if nat_lt mark wiping.gone || has_expired factor moment wiping.last then None
    else first_after mark wiping.firsts

-- the stamp of a mark
abbrev pub stamp_at : List Stamp → ℕ → Stamp
stamp_at stamps zero = no_stamp
stamp_at stamps (suc place) = slice_index_or stamps place no_stamp

-- this is the mark of a word that comes now, where that before it is the last
pub record IsMark (old new : Timing) (last mark : ℕ) : Type 0 where
  pub runs : new.runs ≡ old.runs
  pub factor : new.factor ≡ old.factor
  pub when : new.when ≡ old.when
  pub wiping : old.runs ≡ true → new.wiping ≡ record old.wiping { due = true }
  pub past : last ≤ mark
  pub near : mark ≤ last + 1
  pub fresh : old.runs ≡ true → old.wiping.due ≡ false → mark ≡ last + 1
  pub counted : old.runs ≡ true → mark ≡ length new.stamps
  pub now : old.runs ≡ true → stamp_at new.stamps mark ≡ old.when
  pub others : (other : ℕ) → other ≤ last → stamp_at new.stamps other ≡ stamp_at old.stamps other

-- where what the last one left is gone when another one comes, so is all that was said before it:
-- what has a mark below the last wipe
abbrev pub unless_gone : ℕ → ℕ → ℕ → Wiping → Wiping
unless_gone factor wipes time old =
    if has_expired factor time old.last then record old { firsts = []; gone = wipes } else old

-- the first one after words with marks up to this, if a word came since the last one
abbrev pub with_first : ℕ → Stamp → Wiping → Wiping
with_first mark when old = record old {
  firsts = if old.due then old.firsts ++ (mark, when) ∷ [] else old.firsts;
  due = false;
}

-- one more, where words have marks up to the last
abbrev pub wiped_at : ℕ → ℕ → ℕ → Stamp → Wiping → Wiping
wiped_at factor wipes last when old =
    record (with_first last when (unless_gone factor wipes when.time old)) { last = when }

-- ---- words

abbrev pub TimedRows : Type 0
TimedRows = List (RouteKey × Word)

-- the rows with what this gives of their values, where it gives something
abbrev pub with_value : {W : Type 0} → RouteKey → Option W → List (RouteKey × W)
    → List (RouteKey × W)
with_value key None rows = rows
with_value key (Some value) rows = (key, value) ∷ rows

abbrev pub replaced : {V W : Type 0} → (V → Option W) → List (RouteKey × V) → List (RouteKey × W)
replaced f [] = []
replaced f (row ∷ rows) = with_value row.0 (f row.1) (replaced f rows)

-- in mode Hold, the word after a retraction of all: none where the one before it is gone by then
abbrev pub wiped : ℕ → Stamp → Word → Option Word
wiped factor when said =
    option_map (λ held. word when helds.Unreachable) (left_at modes.Hold factor when.time said)

-- the words after what was told
abbrev pub after_event : Mode → ℕ → Stamp → Event → TimedRows → TimedRows
after_event mode factor when (events.Announce key ann) words =
    insert_entry key_cmp words key (word when (helds.Route ann))
after_event modes.Plain factor when (events.Retract key) words =
    remove_entry (is_at (key_cmp key)) words
after_event modes.Hold factor when (events.Retract key) words =
    insert_entry key_cmp words key (word when helds.Unreachable)
after_event modes.Plain factor when events.RetractAll words = []
after_event modes.Hold factor when events.RetractAll words = replaced (wiped factor when) words
after_event mode factor when events.Nothing words = words
after_event mode factor when (events.Ignored reason) words = words

abbrev pub after_told : Mode → ℕ → Told → TimedRows → TimedRows
after_told mode factor told words = after_event mode factor told.when told.event words

abbrev pub after_all : Mode → ℕ → List Told → TimedRows → TimedRows
after_all mode factor [] words = words
after_all mode factor (told ∷ later) words =
    after_all mode factor later (after_told mode factor told words)

-- a TLV that came at this time tells this
abbrev pub told_then : ℕ → TlvAt → Event → Told
told_then time tlv event = record {
  when = record { time = time; interval = update_interval tlv.body };
  event = event;
}

-- octets begin with packets, which came at this time: the words after them, and the octets that are
-- left
pub record HearsPackets (mode : Mode) (factor time : ℕ) (start : Start) (at : ℕ) (octets : List ℕ)
    (old new : TimedRows) (rest : List ℕ) : Type 0 where
  pub packets : List (List TlvAt)
  pub whole : octets ≡ flat_map packet_octets packets ++ rest
  pub placed : ArePackets at packets
  pub words : new ≡ after_all mode factor (told_in start time packets) old

-- ---- what is left

abbrev pub is_route : Held → Bool
is_route (helds.Route ann) = true
is_route helds.Unreachable = false

-- the words but those of routes that have expired
abbrev pub lasting_words : ℕ → ℕ → TimedRows → TimedRows
lasting_words factor moment words =
    filter (λ row. not (is_route row.1.held && has_expired factor moment row.1.when)) words

-- the rows at a moment
abbrev pub rows_at : Mode → ℕ → ℕ → TimedRows → List (RouteKey × Held)
rows_at mode factor moment words = replaced (left_at mode factor moment) words

-- what is left of the words after all that was told is what is held at the moment
abbrev pub WordsAreHeld : Type 0
WordsAreHeld = (mode : Mode) (factor moment : ℕ) (told : List Told)
    → AreRowsAt mode factor moment told
    (rows_at mode factor moment (after_all mode factor told []))
