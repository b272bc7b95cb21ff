-- What a stream of packets, and the table so far, make of octets: this project's own, as what a
-- feeder makes of them.
use Rattle.std.specs.Prelude.{◌≡◌, ℕ, List, [], ◌∷◌, ◌⊎◌}
use Rattle.babel_tlv.specs.declared.fault.Fault.{Fault}
use Rattle.babel_tlv.specs.declared.start.Start.{Start}
use Rattle.babel_tlv.specs.Context.{Context}
use Rattle.babel_tlv.specs.Framing.{TlvAt, tlvs_of}
use Rattle.babel_tlv.specs.FrameFaults.{AreTlvs, TlvPastEndAt}
use Rattle.babel_tlv.specs.Says.{Saying, sayings_after}
use Rattle.babel_table.specs.declared.so_far.SoFar.{SoFar}
use Rattle.babel_table.specs.declared.stream.Stream.{Stream}
use Rattle.babel_table.specs.Feeding.{Fails, StopsBehind, StopsWithin, Takes, TookPackets, TookSome}
use Rattle.babel_table.specs.Feeding.{routes}
use Rattle.babel_table.specs.Rows.{Routes}

-- ---- the table so far, which keeps its mode and how many rows there may be

-- the rows and the counts
abbrev pub table_of : SoFar → Routes
table_of so_far = routes so_far.rows.rows so_far.report

-- it takes these sayings
abbrev pub TakesSayings : SoFar → List Saying → SoFar → Type 0
TakesSayings old said new = Takes old.rows.mode old.rows.entries said (table_of old) (table_of new)

-- where this TLV is the next one of its packet, it takes it, and the state goes on
abbrev pub TakesTlv : SoFar → Context → TlvAt → SoFar → Context → Type 0
TakesTlv old before tlv new after =
    (start : Start) (from : Routes) (all left : List TlvAt)
    → TookSome old.rows.mode old.rows.entries start from all (table_of old) before (tlv ∷ left)
    → TookSome old.rows.mode old.rows.entries start from all (table_of new) after left

-- where this TLV is the next one of its packet, the packet fails
abbrev pub FailsAtTlv : SoFar → Context → TlvAt → Fault → Type 0
FailsAtTlv old before tlv fault =
    (start : Start) (from : Routes) (all left : List TlvAt)
    → TookSome old.rows.mode old.rows.entries start from all (table_of old) before (tlv ∷ left)
    → Fails old.rows.mode old.rows.entries (sayings_after start [] all) from fault

-- a body at this offset is not TLVs to its end, or one of its TLVs fails
abbrev pub FailsInBody : SoFar → Start → ℕ → List ℕ → Fault → Type 0
FailsInBody old start at body fault =
    TlvPastEndAt at body fault
    ⊎ (AreTlvs at body (tlvs_of at body)
    × Fails old.rows.mode old.rows.entries (sayings_after start [] (tlvs_of at body))
    (table_of old) fault)

-- it takes the packets that the octets at this offset begin with, and the rest begins at this place
abbrev pub TakesPackets : SoFar → Start → ℕ → List ℕ → SoFar → List ℕ → ℕ → Type 0
TakesPackets old start at octets new rest place =
    TookPackets old.rows.mode old.rows.entries start at octets (table_of old) (table_of new) rest
    place

-- it takes some packets of the octets at this offset, and then comes the fault
abbrev pub StopsInPackets : SoFar → Start → ℕ → List ℕ → Fault → Type 0
StopsInPackets old start at octets fault =
    StopsBehind old.rows.mode old.rows.entries start at octets (table_of old) fault

-- ---- a stream

-- the mode, how many rows there may be, and what a packet begins with stay
abbrev pub KeepsSettings : Stream → Stream → Type 0
KeepsSettings old new =
    (new.so_far.rows.mode ≡ old.so_far.rows.mode)
    × (new.so_far.rows.entries ≡ old.so_far.rows.entries)
    × (new.start ≡ old.start)

-- it takes the packets that the octets begin with, and these are left
abbrev pub TakesOctets : Stream → List ℕ → Stream → List ℕ → Type 0
TakesOctets old octets new left =
    TakesPackets old.so_far old.start old.at octets new.so_far left new.at

-- it takes some packets of the octets, and then comes the fault
abbrev pub StopsInOctets : Stream → List ℕ → Fault → Type 0
StopsInOctets old octets fault = StopsInPackets old.so_far old.start old.at octets fault

-- the same after what is pending, without looking at octets past so many in all
abbrev pub StopsInLimit : ℕ → Stream → List ℕ → Fault → Type 0
StopsInLimit bytes old octets fault =
    StopsWithin bytes old.so_far.rows.mode old.so_far.rows.entries old.start old.at old.pending
    octets
    (table_of old.so_far) fault
