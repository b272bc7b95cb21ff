-- What a feeder has made of the octets that it was fed. Reading in pieces is this project's own:
-- RFC 8966, 4 has each packet come whole, in a datagram. Where packets and TLVs end is that of RFC
-- 8966, 4.2 and 4.3.
use Rattle.std.specs.Prelude.{◌≡◌, ℕ, ◌+◌, ◌-◌, ◌<◌, ◌≤◌, Bool}
use Rattle.std.specs.Prelude.{true, List, [], ◌∷◌, ◌++◌, length, take, Option}
use Rattle.std.specs.Prelude.{Some, None, Result, Ok, Err, ◌⊎◌}
use Rattle.std.specs.List.{flat_map, Contains}
use Rattle.babel_prefix.specs.Address.{Address}
use Rattle.babel_tlv.specs.declared.event.Event.{Event}
use Rattle.babel_tlv.specs.declared.event.Event.TheVariants as events
use Rattle.babel_tlv.specs.declared.fault.Fault.{Fault}
use Rattle.babel_tlv.specs.declared.fault.Fault.TheVariants as faults
use Rattle.babel_tlv.specs.declared.held.Held.{Held}
use Rattle.babel_tlv.specs.declared.mode.Mode.{Mode}
use Rattle.babel_tlv.specs.declared.mode.Mode.TheVariants as modes
use Rattle.babel_tlv.specs.declared.start.Start.{Start}
use Rattle.babel_tlv.specs.Framing.{TlvAt, ReadsAs, packet_octets, ArePackets, tlvs_of}
use Rattle.babel_tlv.specs.FrameFaults.{LacksBody, HeaderFault, BeginsPacket, TlvPastEndAt, AreTlvs}
use Rattle.babel_tlv.specs.Route.{RouteKey}
use Rattle.babel_tlv.specs.Says.{Saying, sayings, sayings_after}
use Rattle.babel_tlv.specs.Context.{Context, context_after}
use Rattle.babel_table.specs.Bounds.{Bounds, start_of}
use Rattle.babel_table.specs.Counts.{Counts, counts_of}
use Rattle.babel_table.specs.Holds.{AreRowsOf}
use Rattle.babel_table.specs.Rows.{Routes}
use Rattle.babel_table.specs.Moments.{AreHeard, Heard, dump_of, told_of}
use Rattle.babel_table.specs.Words.{TimedRows, after_all}
use Rattle.babel_table.specs.TableOf.{AreFine}
use Rattle.babel_table.specs.DumpFault.{RefusedBy, DumpFault, HoldsMoreThan}

-- ---- the table so far

-- the rows and the counts are those of these sayings, each of which is an event, with no more than
-- so many keys held after any of them
pub record StandsBehind (mode : Mode) (entries : ℕ) (table : Routes)
    (said : List Saying) : Type 0 where
  pub events : List Event
  pub fine : AreFine mode entries [] said events
  pub rows : AreRowsOf mode events table.rows
  pub report : table.report ≡ counts_of said

abbrev pub routes : List (RouteKey × Held) → Counts → Routes
routes rows report = record { rows = rows; report = report }

-- a TLV says this
abbrev pub event_at : TlvAt → Event → Saying
event_at tlv event = record { at = tlv.at; kind = tlv.kind; body = tlv.body; what = Ok event }

-- an event that may need memory: a route, and in mode Hold a retraction of one key
abbrev pub MayGrow : Mode → Event → Type 0
MayGrow mode (events.Announce key ann) = Unit {0}
MayGrow modes.Plain (events.Retract key) = ⊥
MayGrow modes.Hold (events.Retract key) = Unit {0}
MayGrow mode events.RetractAll = ⊥
MayGrow mode events.Nothing = ⊥
MayGrow mode (events.Ignored reason) = ⊥

-- rows after events become the rows after these and one more
abbrev pub Follows : Mode → Event → List (RouteKey × Held) → List (RouteKey × Held) → Type 0
Follows mode event old new =
    (said : List Event) → AreRowsOf mode said old → AreRowsOf mode (said ++ event ∷ []) new

-- after the events of these rows, one more would make more rows than may be
abbrev pub Overflows : Mode → ℕ → Event → List (RouteKey × Held) → Type 0
Overflows mode entries event rows =
    (said : List Event) → AreRowsOf mode said rows → HoldsMoreThan mode entries (said ++ event ∷ [])

-- why an event is not taken into the rows: there would be too many, or out of memory
abbrev pub IsRefused : Mode → ℕ → ℕ → Event → List (RouteKey × Held) → Fault → Type 0
IsRefused mode entries at event rows fault =
    ((fault ≡ faults.TooManyRoutes at) × Overflows mode entries event rows)
    ⊎ ((fault ≡ faults.Memory) × MayGrow mode event)

abbrev pub MayGrowAt : Mode → Result Event Fault → Type 0
MayGrowAt mode (Ok event) = MayGrow mode event
MayGrowAt mode (Err fault) = ⊥

-- one of these sayings may need memory
abbrev pub SomeMayGrow : Mode → List Saying → Type 0
SomeMayGrow mode said = (saying : Saying) × Contains said saying × MayGrowAt mode saying.what

-- After the earlier TLVs of a packet, some of its TLVs are taken: what the others say, in this
-- context, is all that is left of what the packet says, and the table stands after what was said
-- before.
pub record TookSome (mode : Mode) (entries : ℕ) (start : Start) (old : Routes) (all : List TlvAt)
    (now : Routes) (context : Context) (left : List TlvAt) : Type 0 where
  pub earlier : List TlvAt
  pub done : List Saying
  pub context_is : context ≡ context_after start earlier
  pub whole : sayings_after start [] all ≡ done ++ sayings_after start earlier left
  pub stands : (said : List Saying) → StandsBehind mode entries old said →
      StandsBehind mode entries now (said ++ done)

-- The table takes these sayings: it then stands after what was said before, and these.
abbrev pub Takes : Mode → ℕ → List Saying → Routes → Routes → Type 0
Takes mode entries said old new =
    (before : List Saying) → StandsBehind mode entries old before →
    StandsBehind mode entries new (before ++ said)

-- a fault that octets have, and keep however they go on
abbrev pub IsLasting : Fault → Type 0
IsLasting (faults.Truncated at) = ⊥
IsLasting (faults.BadMagic at) = Unit {0}
IsLasting (faults.BadVersion at) = Unit {0}
IsLasting (faults.TlvPastEnd at) = Unit {0}
IsLasting (faults.EncodingSetsRouterId at) = Unit {0}
IsLasting (faults.TooManyRoutes at) = Unit {0}
IsLasting faults.TooLong = Unit {0}
IsLasting faults.TooManyPairs = ⊥
IsLasting faults.Memory = ⊥

-- one of these sayings refuses the dump, whatever comes after, or needs memory that there is none
-- of
abbrev pub Fails : Mode → ℕ → List Saying → Routes → Fault → Type 0
Fails mode entries said old fault =
    (IsLasting fault
    × ((before later : List Saying) → StandsBehind mode entries old before →
    RefusedBy mode entries (before ++ said ++ later) fault))
    ⊎ ((fault ≡ faults.Memory) × SomeMayGrow mode said)

-- the octets begin with packets, of which the first lies at this offset: they are taken, and the
-- rest begins at this place
pub record TookPackets (mode : Mode) (entries : ℕ) (start : Start) (at : ℕ) (octets : List ℕ)
    (old now : Routes) (rest : List ℕ) (place : ℕ) : Type 0 where
  pub packets : List (List TlvAt)
  pub whole : octets ≡ flat_map packet_octets packets ++ rest
  pub placed : ArePackets at packets
  pub here : place ≡ at + length (flat_map packet_octets packets)
  pub takes : Takes mode entries (sayings start packets) old now

-- why the octets at this place aren't taken: they begin with no packet whose body is TLVs, or one
-- of its TLVs fails
abbrev pub StopsAt : Mode → ℕ → Start → Routes → List ℕ → ℕ → Fault → Type 0
StopsAt mode entries start now rest place fault =
    HeaderFault place rest fault
    ⊎ ((body : List ℕ) × BeginsPacket rest body × (TlvPastEndAt (place + 4) body fault
    ⊎ (AreTlvs (place + 4) body (tlvs_of (place + 4) body)
    × Fails mode entries (sayings_after start [] (tlvs_of (place + 4) body)) now fault)))

-- some packets are taken, and then comes the fault
pub record StopsBehind (mode : Mode) (entries : ℕ) (start : Start) (at : ℕ) (octets : List ℕ)
    (old : Routes) (fault : Fault) : Type 0 where
  pub now : Routes
  pub rest : List ℕ
  pub place : ℕ
  pub took : TookPackets mode entries start at octets old now rest place
  pub stops : StopsAt mode entries start now rest place fault

-- less than a packet: nothing, less than a header, or a good header and less than its body
abbrev pub IsPartial : List ℕ → Type 0
IsPartial octets = (length octets < 4) ⊎ LacksBody octets

-- Why octets after some that are pending are not taken. Those past the limit on all are not looked
-- at: among the others some packets are taken and then comes the fault, or all are taken, and there
-- are too many octets.
abbrev pub StopsWithin : ℕ → Mode → ℕ → Start → ℕ → List ℕ → List ℕ → Routes → Fault → Type 0
StopsWithin bytes mode entries start at pending octets old fault =
    let near : List ℕ = take (bytes - (at + length pending)) octets in
    StopsBehind mode entries start at (pending ++ near) old fault
    ⊎ ((fault ≡ faults.TooLong) × (bytes < at + length (pending ++ octets)) × (now : Routes)
    × (rest : List ℕ) × (place : ℕ)
    × TookPackets mode entries start at (pending ++ near) old now rest place × IsPartial rest)

-- ---- a feeder

-- what a feeder holds: what it was made with, the rows and the counts of the whole packets, where
-- the next packet begins, its octets so far, and the fault if it has one; whether times are kept,
-- how long words last, the time that it is, and the words with their times
pub record Progress : Type 0 where
  pub limits : Bounds
  pub mode : Mode
  pub sender : Address
  pub table : Routes
  pub at : ℕ
  pub pending : List ℕ
  pub fault : Option Fault
  pub runs : Bool
  pub factor : ℕ
  pub time : ℕ
  pub words : TimedRows

-- without a fault: as many TLVs at most as octets, no octet past the limit, and less than a packet
-- pending
pub record IsReady (bytes tlvs at : ℕ) (pending : List ℕ) : Type 0 where
  pub counted : tlvs ≤ at
  pub in_limit : at + length pending ≤ bytes
  pub partial : IsPartial pending

-- without a fault: the octets are whole packets whose TLVs are fine, and less than another
pub record HasTaken (progress : Progress) (fed : List ℕ) : Type 0 where
  pub packets : List (List TlvAt)
  pub in_limit : length fed ≤ progress.limits.bytes
  pub reads : ReadsAs fed packets progress.pending
  pub partial : IsPartial progress.pending
  pub place : progress.at ≡ length (flat_map packet_octets packets)
  pub stands : StandsBehind progress.mode progress.limits.entries progress.table
      (sayings (start_of progress.limits progress.sender) packets)

-- some TLV of the whole packets that the octets begin with may need memory
abbrev pub NeedsMemory : Mode → Start → List ℕ → Type 0
NeedsMemory mode start octets =
    (packets : List (List TlvAt)) × (rest : List ℕ) × ReadsAs octets packets rest
    × SomeMayGrow mode (sayings start packets)

-- out of memory, or the fault of the octets, which it stays however they go on
abbrev pub HasFailed : Progress → Fault → List ℕ → Type 0
HasFailed progress fault fed =
    ((fault ≡ faults.Memory)
    × NeedsMemory progress.mode (start_of progress.limits progress.sender) fed)
    ⊎ (IsLasting fault
    × ((more : List ℕ) →
    DumpFault progress.limits progress.mode progress.sender (fed ++ more) fault))

abbrev pub HasReadTo : Progress → Option Fault → List ℕ → Type 0
HasReadTo progress None fed = HasTaken progress fed
HasReadTo progress (Some fault) fed = HasFailed progress fault fed

-- the feeder stands where these octets, fed since it was made, have led it
abbrev pub HasRead : Progress → List ℕ → Type 0
HasRead progress fed = HasReadTo progress progress.fault fed

-- ---- a feeder that keeps times

-- without a fault: the words are those after the packets that were heard, and nothing is pending
pub record HasHeardAll (progress : Progress) (given : List (ℕ × List ℕ)) : Type 0 where
  pub none : progress.pending ≡ []
  pub all : List Heard
  pub heard : AreHeard given all
  pub words : progress.words ≡ after_all progress.mode progress.factor
      (told_of (start_of progress.limits progress.sender) all) []

-- the feeder stands where these packets, each with the time when it came, have led it
pub record HasHeard (progress : Progress) (given : List (ℕ × List ℕ)) : Type 0 where
  pub runs : progress.runs ≡ true
  pub read : HasRead progress (dump_of given)
  pub told : progress.fault ≡ None → HasHeardAll progress given
