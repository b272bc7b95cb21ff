-- What was said when, and what is held at a moment: RFC 8966, 3.5.4, 4.6.9 and appendix B. A time
-- is in nanoseconds since the start of 1970. Who uses no times needs none of this page.
use Rattle.std.specs.Prelude.{◌≡◌, ℕ, ◌+◌, ◌*◌, Bool, false, not, nat_lt, nat_le, if◌then◌else◌}
use Rattle.std.specs.Prelude.{List, [], ◌∷◌, map, slice_index, fold, Option, Some, None, is_none}
use Rattle.std.specs.List.{Contains, flat_map}
use Rattle.std.specs.Option.{option_and_then, option_map, option_map_or}
use Rattle.babel_prefix.specs.Address.{Address}
use Rattle.babel_tlv.specs.declared.event.Event.{Event}
use Rattle.babel_tlv.specs.declared.event.Event.TheVariants as events
use Rattle.babel_tlv.specs.declared.held.Held.{Held}
use Rattle.babel_tlv.specs.declared.held.Held.TheVariants as helds
use Rattle.babel_tlv.specs.declared.mode.Mode.{Mode}
use Rattle.babel_tlv.specs.declared.mode.Mode.TheVariants as modes
use Rattle.babel_tlv.specs.declared.start.Start.{Start}
use Rattle.babel_tlv.specs.Context.{Context, first_context, updated}
use Rattle.babel_tlv.specs.Framing.{TlvAt, ArePackets, packet_octets}
use Rattle.babel_tlv.specs.Route.{RouteKey}
use Rattle.babel_tlv.specs.Says.{tells}
use Rattle.babel_table.specs.Bounds.{Bounds, start_of}
use Rattle.babel_table.specs.Holds.{retracted, same_key}
use Rattle.babel_table.specs.Rows.{IsRising, Routes}
use Rattle.babel_table.specs.TableOf.{IsTableOf}

-- ---- what was said when

-- RFC 8966, 4.6.9: the Interval of an Update, in hundredths of a second
abbrev pub update_interval : List ℕ → ℕ
update_interval body = slice_index body 4 * 256 + slice_index body 5

-- when something was said, and the Interval that was said with it
pub record Stamp : Type 0 where
  pub time : ℕ
  pub interval : ℕ

-- what a TLV told, and when
pub record Told : Type 0 where
  pub when : Stamp
  pub event : Event

-- what a TLV that came at this time tells in its context
abbrev pub told_at : ℕ → Context → TlvAt → Told
told_at time context tlv = record {
  when = record { time = time; interval = update_interval tlv.body };
  event = tells context tlv;
}

-- what TLVs that came at this time tell, in order, from a context on
abbrev pub told_from : ℕ → Context → List TlvAt → List Told
told_from time context [] = []
told_from time context (tlv ∷ tlvs) =
    told_at time context tlv ∷ told_from time (updated context tlv) tlvs

-- packets that came at one time, each as its TLVs
pub record Heard : Type 0 where
  pub time : ℕ
  pub packets : List (List TlvAt)

-- what they tell; the context begins anew with each packet
abbrev pub told_in : Start → ℕ → List (List TlvAt) → List Told
told_in start time packets = flat_map (told_from time (first_context start)) packets

-- what all packets tell, in the order in which they were heard
abbrev pub told_of : Start → List Heard → List Told
told_of start all = flat_map (λ heard. told_in start heard.time heard.packets) all

-- ---- what is held at a moment

-- RFC 8966, appendix B: when what was said then ends, so many times its Interval later. The factor
-- is in ten-millionths and an Interval in hundredths of a second, so their product is in
-- nanoseconds. With an Interval of 0, which 4.6.9 forbids, it does not end (this project's own).
abbrev pub end_after : ℕ → Stamp → Option ℕ
end_after factor when =
    if nat_lt 0 when.interval then Some (when.time + factor * when.interval) else None

-- whether it has expired at the moment
abbrev pub has_expired : ℕ → ℕ → Stamp → Bool
has_expired factor moment when =
    option_map_or (λ end. nat_le end moment) (end_after factor when) false

-- what was said of a key, a route or that it is unreachable, and when
pub record Word : Type 0 where
  pub held : Held
  pub when : Stamp

abbrev pub word : Stamp → Held → Word
word when held = record { held = held; when = when }

-- after how many times that long nothing is left of a word. RFC 8966, 3.5.3: a route that has
-- expired is unreachable, and gone after as long again; in mode Plain it is gone at once
abbrev pub times : Mode → Held → ℕ
times modes.Hold (helds.Route ann) = 2
times mode held = 1

-- what is left of a word at the moment
abbrev pub left_at : Mode → ℕ → ℕ → Word → Option Held
left_at mode factor moment said =
    if not (has_expired factor moment said.when) then Some said.held
    else if not (has_expired (times mode said.held * factor) moment said.when)
    then Some helds.Unreachable else None

-- RFC 8966, 4.6.9: the word on a key after an event, if this was the word before it. A wildcard
-- retraction is of what is not gone when it comes; what is gone it does not bring back
abbrev pub word_after : Mode → ℕ → RouteKey → Stamp → Event → Option Word → Option Word
word_after mode factor key when (events.Announce other ann) old =
    if same_key other key then Some (word when (helds.Route ann)) else old
word_after mode factor key when (events.Retract other) old =
    if same_key other key then option_map (word when) (retracted mode) else old
word_after mode factor key when events.RetractAll old =
    if is_none (option_and_then (left_at mode factor when.time) old) then None
    else option_map (word when) (retracted mode)
word_after mode factor key when event old = old

-- the word on a key after all that was told, in order
abbrev pub last_word : Mode → ℕ → List Told → RouteKey → Option Word
last_word mode factor told key =
    fold (λ old one. word_after mode factor key one.when one.event old) None told

-- this is held for a key at the moment
abbrev pub HoldsAt : Mode → ℕ → ℕ → List Told → RouteKey → Held → Type 0
HoldsAt mode factor moment told key held =
    option_and_then (left_at mode factor moment) (last_word mode factor told key) ≡ Some held

-- the rows are the keys for which something is held at the moment, each once, in rising order, with
-- what is held for them
pub record AreRowsAt (mode : Mode) (factor moment : ℕ) (told : List Told)
    (rows : List (RouteKey × Held)) : Type 0 where
  pub rising : IsRising rows
  pub held : (key : RouteKey) (held : Held) → Contains rows (key, held)
      → HoldsAt mode factor moment told key held
  pub all : (key : RouteKey) (held : Held) → HoldsAt mode factor moment told key held
      → Contains rows (key, held)

-- ---- a dump of which it is known when its packets came

-- the octets of these packets, and when they came
abbrev pub octets_heard : Heard → ℕ × List ℕ
octets_heard heard = (heard.time, flat_map packet_octets heard.packets)

-- the octets are packets that came then
pub record AreHeard (given : List (ℕ × List ℕ)) (all : List Heard) : Type 0 where
  pub octets : given ≡ map octets_heard all
  pub placed : ArePackets 0 (flat_map (λ heard. heard.packets) all)

-- the dump that the octets are, end to end
abbrev pub dump_of : List (ℕ × List ℕ) → List ℕ
dump_of given = flat_map (λ piece. piece.1) given

-- the table of a dump at a moment: its rows are those held then, and its report is the dump's
pub record IsTableAt (limits : Bounds) (mode : Mode) (sender : Address)
    (given : List (ℕ × List ℕ)) (factor moment : ℕ) (table : Routes) : Type 0 where
  pub all : List Heard
  pub heard : AreHeard given all
  pub rows : AreRowsAt mode factor moment (told_of (start_of limits sender) all) table.rows
  pub whole : Routes
  pub is_whole : IsTableOf limits mode sender (dump_of given) whole
  pub report : table.report ≡ whole.report
