-- What is made of the packets of a capture. It is this project's own, but for what a Babel packet
-- is: RFC 8966, 4.2.
use Rattle.std.specs.Prelude.{◌≡◌, ◌≢◌, ℕ, ◌<◌, Bool, List, [], length, slice_index}
use Rattle.std.specs.Prelude.{Option, Some, None, ◌⊎◌, nat_lt, if◌then◌else◌, ◌&&◌, false, true}
use Rattle.babel_prefix.specs.Address.{Address}
use Rattle.babel_tlv.specs.Framing.{framed}
use Rattle.babel_tlv.specs.FrameFaults.{BeginsPacket, HasHeader, LacksBody}
use Rattle.babel_capture.specs.declared.ends.Ends.{Ends}
use Rattle.babel_capture.specs.declared.finding.Finding.{Finding}
use Rattle.babel_capture.specs.declared.finding.Finding.TheVariants as findings
use Rattle.babel_capture.specs.declared.lack.Lack.{Lack}
use Rattle.babel_capture.specs.declared.missed.Missed.{Missed}
use Rattle.babel_capture.specs.declared.place.Place.{Place}
use Rattle.babel_capture.specs.declared.reason.Reason.{Reason}
use Rattle.babel_capture.specs.declared.reason.Reason.TheVariants as reasons
use Rattle.babel_capture.specs.declared.tallies.Origin.{Origin}
use Rattle.babel_capture.specs.declared.wanted.Wanted.{Wanted}
use Rattle.babel_capture.specs.Lack.{lack_reason, lacks_fragments}
use Rattle.babel_capture.specs.Sight.{Sight, Carried, other, too_short, fragmented, datagram}
use Rattle.babel_capture.specs.Sight.{other_port, not_link_local, lacking, carries}

-- nothing; a frame that is too short to tell; a datagram left out, for a reason, and whose it is
-- where it is missed; one that is refused, for what it lacks; or a Babel packet, captured at
-- a place, between which addresses, and whether octets come after its body
pub data Found : Type 0 where
  passed : Found
  untold : Found
  left : (reason : Reason) (missed : Option Origin) → Found
  refused : (lack : Lack) → Found
  found : (place : Place) (ends : Ends) (packet : List ℕ) (has_trailer : Bool) → Found

-- what the code makes of a packet
abbrev pub finding_of : Finding → Found
finding_of findings.Passed = passed
finding_of findings.Short = untold
finding_of (findings.Left reason origin is_missed) =
    left reason (if is_missed then Some origin else None)
finding_of (findings.Refused lack) = refused lack
finding_of (findings.Packet origin destination octets has_trailer) =
    found origin.place (record { sender = origin.sender; destination = destination.now }) octets.now
    has_trailer

-- the octets of the packet, if one was found, whose it is, and to whom it is sent
abbrev pub octets_found : Found → List ℕ
octets_found (found place ends packet has_trailer) = packet
octets_found what = []

abbrev pub origin_found : Found → Option Origin
origin_found (found place ends packet has_trailer) =
    Some (record { place = place; sender = ends.sender })
origin_found what = None

abbrev pub destination_found : Found → Option Address
destination_found (found place ends packet has_trailer) = Some ends.destination
destination_found what = None

-- the datagram that is missed
abbrev pub missed_in : Found → Option Missed
missed_in (left reason (Some origin)) = Some (record { origin = origin; reason = reason })
missed_in what = None

-- why a datagram is left out, if one is
abbrev pub reason_left : Found → Option Reason
reason_left (left reason missed) = Some reason
reason_left what = None

-- nobody is named, and no place, senders are listed, and missing fragments are not accepted
abbrev pub everyone : Wanted
everyone = record {
  sender = None;
  place = None;
  are_listed = true;
  accepts_missing = false;
}

-- it is this one, if one is named
abbrev pub IsOrAny : {A : Type 0} → Option A → A → Type 0
IsOrAny None one = Unit {0}
IsOrAny (Some named) one = one ≡ named

-- this sender is wanted at this place
abbrev pub IsWanted : Wanted → Address → Place → Type 0
IsWanted wanted sender place = IsOrAny wanted.sender sender × IsOrAny wanted.place place

-- one claim or the other, as this holds or not
abbrev pub Either : Type 0 → Type 0 → Type 0 → Type 0
Either holds met unmet = (holds × met) ⊎ ((¬ holds) × unmet)

-- RFC 8966, 4.2: the payload begins with a packet, which is found without what comes after it, as
-- the trailer of RFC 8967, 3; or it is left out, being shorter than its header says, or for its
-- magic or its version
abbrev pub PayloadIs : Place → Ends → List ℕ → Found → Type 0
PayloadIs place ends payload what =
    ((body : List ℕ) × BeginsPacket payload body × (what
    ≡ found place ends (framed body) (nat_lt (length (framed body)) (length payload))))
    ⊎ (((length payload < 4) ⊎ LacksBody payload) × (what ≡ left reasons.Truncated None))
    ⊎ (HasHeader payload × (slice_index payload 0 ≢ 42) × (what ≡ left reasons.BadMagic None))
    ⊎ (HasHeader payload × (slice_index payload 0 ≡ 42) × (slice_index payload 1 ≢ 2)
    × (what ≡ left reasons.BadVersion None))

-- a datagram that lacks something refuses the capture where a sender is named, and else it is left
-- out, and missed
abbrev pub missed_found : (named : Option Address) → Place → Address → Lack → Found
missed_found None place sender lack =
    left (lack_reason lack) (Some (record { place = place; sender = sender }))
missed_found (Some named) place sender lack = refused lack

-- but one of which fragments are missing is left out, and not missed, where that is accepted
abbrev pub lack_found : Wanted → Place → Address → Lack → Found
lack_found wanted place sender lack =
    if wanted.accepts_missing && lacks_fragments lack then left (lack_reason lack) None
    else missed_found wanted.sender place sender lack

-- what is made of a wanted datagram
abbrev pub CarriedIs : Wanted → Place → Ends → Carried → Found → Type 0
CarriedIs wanted place ends other_port what = what ≡ left reasons.OtherPort None
CarriedIs wanted place ends not_link_local what = what ≡ left reasons.NotLinkLocal None
CarriedIs wanted place ends (lacking lack) what =
    what ≡ lack_found wanted place ends.sender lack
CarriedIs wanted place ends (carries payload) what = PayloadIs place ends payload what

-- what is made of a packet
abbrev pub Finds : Wanted → Sight → Found → Type 0
Finds wanted other what = what ≡ passed
Finds wanted too_short what = what ≡ untold
Finds wanted (fragmented fragment) what = what ≡ passed
Finds wanted (datagram place ends carried) what =
    Either (IsWanted wanted ends.sender place) (CarriedIs wanted place ends carried what) (what
    ≡ passed)
