-- Laws of the definitions: which outcome a dump has is settled by its octets. RFC 8966, 4.2 to 4.6.
use Rattle.std.specs.Prelude.{◌≡◌, ◌≢◌, ℕ, List, ◌++◌, Ok, Contains}
use Rattle.std.specs.List.{AllByRecursion}
use Rattle.babel_prefix.specs.Address.{Address}
use Rattle.babel_tlv.specs.declared.event.Event.{Event}
use Rattle.babel_tlv.specs.declared.event.Event.TheVariants as events
use Rattle.babel_tlv.specs.declared.fault.Fault.{Fault}
use Rattle.babel_tlv.specs.declared.fault.Fault.TheVariants as faults
use Rattle.babel_tlv.specs.declared.mode.Mode.{Mode}
use Rattle.babel_tlv.specs.declared.mode.Mode.TheVariants as modes
use Rattle.babel_tlv.specs.declared.start.Start.{Start}
use Rattle.babel_tlv.specs.Framing.{TlvAt, ReadsAs}
use Rattle.babel_tlv.specs.Pairs.{HopFits}
use Rattle.babel_tlv.specs.Route.{RouteKey, Announcement}
use Rattle.babel_tlv.specs.Says.{Saying, sayings}
use Rattle.babel_table.specs.Bounds.{Bounds}
use Rattle.babel_table.specs.TableOf.{IsTableOf}
use Rattle.babel_table.specs.DumpFault.{DumpFault, IsTruncated}
use Rattle.babel_table.specs.Feeding.{NeedsMemory}
use Rattle.babel_table.specs.Holds.{Names}
use Rattle.babel_table.specs.Rows.{Routes}

-- a dump has at most one fault
abbrev pub FaultIsOne : Type 0
FaultIsOne =
    (limits : Bounds) (mode : Mode) (sender : Address) (dump : List ℕ) (fault other : Fault)
    → DumpFault limits mode sender dump fault → DumpFault limits mode sender dump other
    → fault ≡ other

-- a dump has at most one table
abbrev pub TableIsOne : Type 0
TableIsOne =
    (limits : Bounds) (mode : Mode) (sender : Address) (dump : List ℕ) (table other : Routes)
    → IsTableOf limits mode sender dump table → IsTableOf limits mode sender dump other
    → table ≡ other

-- in a dump's table each route has a next hop of its key's family, or, where that is read, of IPv6
-- for a key of IPv4
abbrev pub HopsFit : Type 0
HopsFit =
    (limits : Bounds) (mode : Mode) (sender : Address) (dump : List ℕ) (table : Routes)
    → IsTableOf limits mode sender dump table
    → AllByRecursion (λ row. HopFits limits.via_v6 row.0 row.1) table.rows

-- too many pairs is no fault of a dump, nor is out of memory
abbrev pub FaultIsOfOctets : Type 0
FaultIsOfOctets =
    (limits : Bounds) (mode : Mode) (sender : Address) (dump : List ℕ) (fault : Fault)
    → DumpFault limits mode sender dump fault
    → (fault ≢ faults.TooManyPairs) × (fault ≢ faults.Memory)

-- a fault other than Truncated stays however the octets go on
abbrev pub FaultStays : Type 0
FaultStays =
    (limits : Bounds) (mode : Mode) (sender : Address) (given more : List ℕ) (fault : Fault)
    → DumpFault limits mode sender given fault → ¬ IsTruncated fault
    → DumpFault limits mode sender (given ++ more) fault

-- some TLV of the whole packets that the octets begin with says such an event
abbrev pub SomeTlvSays : Start → List ℕ → (Event → Type 0) → Type 0
SomeTlvSays start octets IsSuch =
    (packets : List (List TlvAt)) × (rest : List ℕ) × (saying : Saying) × (event : Event)
    × ReadsAs octets packets rest × Contains (sayings start packets) saying
    × (saying.what ≡ Ok event) × IsSuch event

-- in mode Plain only an announcement needs memory
abbrev pub RoutesNeedMemory : Type 0
RoutesNeedMemory =
    (start : Start) (octets : List ℕ) → NeedsMemory modes.Plain start octets
    → SomeTlvSays start octets (λ event. (key : RouteKey) × (ann : Announcement)
    × (event ≡ events.Announce key ann))

-- in mode Hold only an announcement or a retraction of one key does
abbrev pub KeysNeedMemory : Type 0
KeysNeedMemory =
    (start : Start) (octets : List ℕ) → NeedsMemory modes.Hold start octets
    → SomeTlvSays start octets (λ event. (key : RouteKey) × Names key event)
