-- Whole packets have no fault of framing but a TLV past the end of its packet.
use Rattle.std.proofs.Common.{◌≡◌, ◌≢◌, ℕ, Bool, true, false, List, [], ◌∷◌, ◌++◌, length, take, drop, refl, sym, ap, subst, ◌∙◌, append_assoc, inl, inr, cond, arith}
use Rattle.std.specs.Prelude.{Option, Result, Ok, Err, IfErr}
use Rattle.std.specs.List.{AllByRecursion, flat_map}
use Rattle.std.proofs.lemmas.Bool.{cases_lt}
use Rattle.std.proofs.lemmas.List.{take-append-drop, take_all}
use Rattle.babel_prefix.specs.Address.{Address}
use Rattle.babel_tlv.specs.declared.event.Event.{Event}
use Rattle.babel_tlv.specs.declared.fault.Fault.{Fault}
use Rattle.babel_tlv.specs.declared.fault.Fault.TheVariants as faults
use Rattle.babel_tlv.specs.declared.mode.Mode.{Mode}
use Rattle.babel_tlv.specs.declared.start.Start.{Start}
use Rattle.babel_tlv.specs.Context.{Context}
use Rattle.babel_tlv.specs.FrameFaults.{PacketFault}
use Rattle.babel_tlv.specs.Framing.{TlvAt, packet_octets}
use Rattle.babel_tlv.specs.Says.{Saying, refuses, said, sayings, sayings_after}
use Rattle.babel_table.specs.Bounds.{Bounds, start_of}
use Rattle.babel_table.specs.DumpFault.{DumpFault, IsTruncated, RefusedBy, Refuses, StreamFault}
use Rattle.babel_table.specs.Moments.{dump_of}
use Rattle.babel_table.proofs.DumpLaws.{begins-more, header-more}
use Rattle.babel_capture.specs.Passage.{Sighting}
use Rattle.babel_capture.specs.Counts.{Made}
use Rattle.babel_capture.specs.Findings.{Found, found, left, octets_found, passed, refused, untold}
use Rattle.babel_capture.specs.Gathering.{AreMade}
use Rattle.babel_capture.specs.Packets.{ArePackets, IsPastEnd}
use Rattle.babel_capture.specs.Times.{time_of}
use Rattle.babel_capture.specs.declared.wanted.Wanted.{Wanted}
use Rattle.babel_capture.proofs.FramingLaws.{framing_fine}
use Rattle.babel_capture.proofs.PacketLaws.{in_sight, joined, nothing_found}
use Rattle.babel_dump.specs.ExtractLaws.{IsOfFraming}
use Rattle.babel_dump.specs.Fed.{AreWhole}
use Rattle.babel_dump.specs.Packets.{packets_made, timed_found}

-- ---- what a TLV refuses a dump for is no fault of framing

pub record NoFraming (r : Result Event Fault) : Type 0 where
  pub none : IfErr r (λ fault. ¬ IsOfFraming fault)

either_none : (b : Bool) {x y : Result Event Fault} → NoFraming x → NoFraming y → NoFraming (cond b x y)
either_none true here there = here
either_none false here there = there

event_none : {event : Event} → NoFraming (Ok event)
event_none = record { none = tt }

said_none : (context : Context) (tlv : TlvAt) → NoFraming (said context tlv)
said_none context tlv = either_none (refuses context.via_v6 tlv) (record { none = λ framing. framing }) event_none

abbrev SaysNone : Saying → Type 0
SaysNone saying = IfErr saying.what (λ fault. ¬ IsOfFraming fault)

all_append : (xs ys : List Saying) → AllByRecursion SaysNone xs → AllByRecursion SaysNone ys → AllByRecursion SaysNone (xs ++ ys)
all_append [] ys one two = two
all_append (x ∷ xs) ys one two = (one.0, all_append xs ys one.1 two)

all_middle : (xs : List Saying) (x : Saying) (ys : List Saying) → AllByRecursion SaysNone (xs ++ x ∷ ys) → SaysNone x
all_middle [] x ys all = all.0
all_middle (z ∷ xs) x ys all = all_middle xs x ys all.1

packet_none : (start : Start) (earlier tlvs : List TlvAt) → AllByRecursion SaysNone (sayings_after start earlier tlvs)
packet_none start earlier [] = tt
packet_none start earlier (tlv ∷ tlvs) = ((said_none _ tlv).none, packet_none start (tlv ∷ earlier) tlvs)

packets_none : (start : Start) (packets : List (List TlvAt)) → AllByRecursion SaysNone (sayings start packets)
packets_none start [] = tt
packets_none start (packet ∷ packets) =
    all_append (sayings_after start [] packet) (sayings start packets) (packet_none start [] packet) (packets_none start packets)

refuses_none : (mode : Mode) (entries : ℕ) (before : List Event) (at : ℕ) (what : Result Event Fault) (fault : Fault)
    → IfErr what (λ other. ¬ IsOfFraming other) → Refuses mode entries before at what fault → ¬ IsOfFraming fault
refuses_none mode entries before at (Ok event) fault none why framing = subst IsOfFraming why.0 framing
refuses_none mode entries before at (Err other) fault none why framing = none (subst IsOfFraming why framing)

refused_none : (mode : Mode) (entries : ℕ) (start : Start) (packets : List (List TlvAt)) (fault : Fault)
    → RefusedBy mode entries (sayings start packets) fault → ¬ IsOfFraming fault
refused_none mode entries start packets fault (front, saying, later, before, is, fine, why) =
    refuses_none mode entries before saying.at saying.what fault
    (all_middle front saying later (subst (λ (s : List Saying). AllByRecursion SaysNone s) is (packets_none start packets))) why

-- ---- whole packets have no such fault

past_end_alone : (fault : Fault) → IsPastEnd fault → ¬ IsOfFraming fault
past_end_alone (faults.TlvPastEnd at) past framing = framing
past_end_alone (faults.Truncated at) past framing = past
past_end_alone (faults.BadMagic at) past framing = past
past_end_alone (faults.BadVersion at) past framing = past
past_end_alone (faults.EncodingSetsRouterId at) past framing = past
past_end_alone (faults.TooManyRoutes at) past framing = past
past_end_alone faults.TooLong past framing = past
past_end_alone faults.TooManyPairs past framing = past
past_end_alone faults.Memory past framing = past

-- the fault of octets that begin with no packet stays, if these don't just end too soon
packet_more : (at : ℕ) (octets more : List ℕ) (fault : Fault) → PacketFault at octets fault → ¬ IsTruncated fault → PacketFault at (octets ++ more) fault
packet_more at octets more fault (inl cut) whole = absurd (whole (subst IsTruncated (sym cut.0) tt))
packet_more at octets more fault (inr (inl header)) whole = inr (inl (header-more at octets more fault header))
packet_more at octets more fault (inr (inr (body, begins, past))) whole = inr (inr (body, begins-more octets more body begins, past))

some_more : (octets more : List ℕ) → octets ≢ [] → (octets ++ more) ≢ []
some_more [] more some = absurd (some refl)
some_more (octet ∷ octets) more some = λ none. absurd cc

module _ (mode : Mode) (entries : ℕ) (start : Start) (dump : List ℕ) (are : ArePackets dump) where
  stream_framed : (fault : Fault) → StreamFault mode entries start dump fault → ¬ IsOfFraming fault
  stream_framed fault (packets, rest, reads, inl (said, fine, some, why)) =
      past_end_alone fault (framing_fine dump are fault (packets, rest, reads, some, why))
  stream_framed fault (packets, rest, reads, inr refuses) = refused_none mode entries start packets fault refuses

  -- the first octets of the dump
  front_framed : (front more : List ℕ) → front ++ more ≡ dump → (fault : Fault) → StreamFault mode entries start front fault → ¬ IsTruncated fault → ¬ IsOfFraming fault
  front_framed front more is fault (packets, rest, reads, inl (said, fine, some, why)) whole =
      past_end_alone fault (framing_fine dump are fault (
        packets,
        rest ++ more,
        record {
          whole = sym is ∙ ap (λ (t : List ℕ). t ++ more) reads.whole ∙ append_assoc (flat_map packet_octets packets) rest more;
          placed = reads.placed;
        },
        some_more rest more some,
        packet_more (length (flat_map packet_octets packets)) rest more fault why whole,
      ))
  front_framed front more is fault (packets, rest, reads, inr refuses) whole = refused_none mode entries start packets fault refuses

too_long_alone : (fault : Fault) → fault ≡ faults.TooLong → ¬ IsOfFraming fault
too_long_alone fault is framing = subst IsOfFraming is framing

pub dump_framed : (limits : Bounds) (mode : Mode) (sender : Address) (dump : List ℕ) → ArePackets dump → (fault : Fault) → DumpFault limits mode sender dump fault → ¬ IsOfFraming fault
dump_framed limits mode sender dump are fault (inl (stream, whole)) = elim (cases_lt limits.bytes (length dump)) [
  | inl past ↦
      front_framed mode limits.entries (start_of limits sender) dump are (take limits.bytes dump) (drop limits.bytes dump) (take-append-drop limits.bytes dump) fault stream
      (λ cut. omega (arith, past, whole cut))
  | inr fits ↦ stream_framed mode limits.entries (start_of limits sender) dump are fault
      (subst (λ (t : List ℕ). StreamFault mode limits.entries (start_of limits sender) t fault) (take_all limits.bytes dump fits) stream)
]
dump_framed limits mode sender dump are fault (inr (past, is, cut)) = too_long_alone fault is

truncated_is : (fault : Fault) → IsTruncated fault → IsOfFraming fault
truncated_is (faults.Truncated at) cut = tt
truncated_is (faults.BadMagic at) cut = tt
truncated_is (faults.BadVersion at) cut = tt
truncated_is (faults.TlvPastEnd at) cut = cut
truncated_is (faults.EncodingSetsRouterId at) cut = cut
truncated_is (faults.TooManyRoutes at) cut = cut
truncated_is faults.TooLong cut = cut
truncated_is faults.TooManyPairs cut = cut
truncated_is faults.Memory cut = cut

-- and are not truncated
pub not_truncated : (limits : Bounds) (mode : Mode) (sender : Address) (dump : List ℕ) → ArePackets dump → (fault : Fault) → DumpFault limits mode sender dump fault → ¬ IsTruncated fault
not_truncated limits mode sender dump are fault has cut = dump_framed limits mode sender dump are fault has (truncated_is fault cut)

-- ---- end to end

pub whole_dump : (packets : List (ℕ × List ℕ)) → AreWhole packets → ArePackets (dump_of packets)
whole_dump [] are = nothing_found [] refl
whole_dump (packet ∷ packets) (one, are) = joined packet.1 (dump_of packets) one (whole_dump packets are)

pub whole_front : (front back : List (ℕ × List ℕ)) → AreWhole (front ++ back) → AreWhole front
whole_front [] back are = tt
whole_front (packet ∷ front) back (one, are) = (one, whole_front front back are)

-- ---- what is made of a capture

found_whole : (time : Option ℕ) (what : Found) → ArePackets (octets_found what) → AreWhole (timed_found time what)
found_whole time passed whole = tt
found_whole time untold whole = tt
found_whole time (left reason missed) whole = tt
found_whole time (refused lack) whole = tt
found_whole time (found place ends packet has_trailer) whole = (whole, tt)

pub whole_both : (front back : List (ℕ × List ℕ)) → AreWhole front → AreWhole back → AreWhole (front ++ back)
whole_both [] back one two = two
whole_both (packet ∷ front) back (whole, one) two = (whole, whole_both front back one two)

pub whole_made : (wanted : Wanted) (sightings : List Sighting) (made : List Made) → AreMade wanted sightings made → AreWhole (packets_made made)
whole_made wanted [] made is = subst (λ (m : List Made). AreWhole (packets_made m)) (sym is) tt
whole_made wanted (sighting ∷ later) made (one, others, is, number, link, came, finds, takes, are) =
    subst (λ (m : List Made). AreWhole (packets_made m)) (sym is) (whole_both (timed_found (time_of one.came) one.what) (packets_made others)
    (found_whole (time_of one.came) one.what (in_sight wanted sighting.what one.what finds)) (whole_made wanted later others are))
