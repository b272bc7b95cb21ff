-- Which fault a dump has: RFC 8966, 4.2 to 4.6, and the limits of a run.
use Rattle.std.specs.Prelude.{◌≡◌, ◌≢◌, ℕ, ◌<◌, ◌≤◌, List, [], ◌∷◌, ◌++◌, length, take, Result, Ok}
use Rattle.std.specs.Prelude.{Err, ◌⊎◌}
use Rattle.std.specs.List.{flat_map}
use Rattle.babel_prefix.specs.Address.{Address}
use Rattle.babel_tlv.specs.declared.event.Event.{Event}
use Rattle.babel_tlv.specs.declared.fault.Fault.{Fault}
use Rattle.babel_tlv.specs.declared.fault.Fault.TheVariants as faults
use Rattle.babel_tlv.specs.declared.mode.Mode.{Mode}
use Rattle.babel_tlv.specs.declared.held.Held.{Held}
use Rattle.babel_tlv.specs.declared.start.Start.{Start}
use Rattle.babel_tlv.specs.Framing.{TlvAt, ReadsAs, packet_octets}
use Rattle.babel_tlv.specs.FrameFaults.{PacketFault}
use Rattle.babel_tlv.specs.Route.{RouteKey}
use Rattle.babel_tlv.specs.Says.{Saying, sayings}
use Rattle.babel_table.specs.Bounds.{Bounds, start_of}
use Rattle.babel_table.specs.Holds.{AreRowsOf}
use Rattle.babel_table.specs.TableOf.{AreFine}

-- something is held for more than so many keys
abbrev pub HoldsMoreThan : Mode → ℕ → List Event → Type 0
HoldsMoreThan mode entries said =
    (rows : List (RouteKey × Held)) × AreRowsOf mode said rows × (entries < length rows)

-- after the events `before`, the saying of the TLV at this offset refuses the dump with this fault:
-- its own, or TooManyRoutes, since after its event something is held for more than so many keys
abbrev pub Refuses : Mode → ℕ → List Event → ℕ → Result Event Fault → Fault → Type 0
Refuses mode entries before at (Err refused) fault = fault ≡ refused
Refuses mode entries before at (Ok event) fault =
    (fault ≡ faults.TooManyRoutes at) × HoldsMoreThan mode entries (before ++ event ∷ [])

-- the fault of the first TLV that refuses the dump
abbrev pub RefusedBy : Mode → ℕ → List Saying → Fault → Type 0
RefusedBy mode entries told fault =
    (front : List Saying) × (saying : Saying) × (later : List Saying) × (before : List Event)
    × (told ≡ front ++ saying ∷ later) × AreFine mode entries [] front before
    × Refuses mode entries before saying.at saying.what fault

-- The octets are packets whose TLVs are fine, and then octets that aren't none and begin with no
-- packet; or they begin with packets of which a TLV refuses the dump.
abbrev pub StreamFault : Mode → ℕ → Start → List ℕ → Fault → Type 0
StreamFault mode entries start octets fault =
    (packets : List (List TlvAt)) × (rest : List ℕ) × ReadsAs octets packets rest
    × (((said : List Event) × AreFine mode entries [] (sayings start packets) said × (rest ≢ [])
    × PacketFault (length (flat_map packet_octets packets)) rest fault)
    ⊎ RefusedBy mode entries (sayings start packets) fault)

-- the dump ends within a packet
abbrev pub IsTruncated : Fault → Type 0
IsTruncated (faults.Truncated at) = Unit {0}
IsTruncated fault = ⊥

-- The fault of a dump. Octets past the limit are never looked at: it is that of the octets up to
-- the limit (`seen`), unless only the limit cuts them off; or TooLong, if there are octets past it,
-- and those up to it have no fault or are cut off.
abbrev pub DumpFault : Bounds → Mode → Address → List ℕ → Fault → Type 0
DumpFault limits mode sender dump fault =
    let start = start_of limits sender in
    let seen = take limits.bytes dump in
    (StreamFault mode limits.entries start seen fault
    × (IsTruncated fault → length dump ≤ limits.bytes))
    ⊎ ((limits.bytes < length dump) × (fault ≡ faults.TooLong)
    × ((other : Fault) → StreamFault mode limits.entries start seen other → IsTruncated other))

abbrev pub HasNoFault : Bounds → Mode → Address → List ℕ → Type 0
HasNoFault limits mode sender dump = (fault : Fault) → DumpFault limits mode sender dump fault → ⊥

-- no fault, or the dump may still go on
abbrev pub MayGoOn : Bounds → Mode → Address → List ℕ → Type 0
MayGoOn limits mode sender dump =
    (fault : Fault) → DumpFault limits mode sender dump fault → IsTruncated fault
