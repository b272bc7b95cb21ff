-- What is found in a capture is whole packets.
use Rattle.std.proofs.Common.{◌≡◌, ℕ, Bool, true, false, ◌&&◌, if◌then◌else◌, List, [], ◌∷◌, ◌++◌, Option, None, Some, sym, ap, subst, ◌∙◌, inl, inr}
use Rattle.std.specs.List.{flat_map}
use Rattle.std.proofs.lemmas.List.{append-nil}
use Rattle.std.proofs.lemmas.List.Concat.{flat_map-append}
use Rattle.std.proofs.lemmas.List.Elements.{All-nil, All-append, All-push}
use Rattle.babel_prefix.specs.Address.{Address}
use Rattle.babel_capture.specs.declared.ends.Ends.{Ends}
use Rattle.babel_tlv.specs.Framing.{IsBody, framed}
use Rattle.babel_capture.specs.declared.lack.Lack.{Lack}
use Rattle.babel_capture.specs.declared.place.Place.{Place}
use Rattle.babel_capture.specs.declared.wanted.Wanted.{Wanted}
use Rattle.babel_capture.specs.Blocks.{sightings_to_end}
use Rattle.babel_capture.specs.Passage.{Sighting}
use Rattle.babel_capture.specs.Capture.{IsRead}
use Rattle.babel_capture.specs.Counts.{Made}
use Rattle.babel_capture.specs.Dumps.{dump_of}
use Rattle.babel_capture.specs.Findings.{Found, Finds, PayloadIs, CarriedIs, left, missed_found, octets_found}
use Rattle.babel_capture.specs.Lack.{lack_reason, lacks_fragments}
use Rattle.babel_capture.specs.Gathering.{AreMade, Gathering}
use Rattle.babel_capture.specs.Packets.{ArePackets}
use Rattle.babel_capture.specs.Sight.{Sight, Carried, other, too_short, fragmented, datagram, other_port, not_link_local, lacking, carries}
use Rattle.babel_capture.specs.Window.{Extent}
use Rattle.babel_capture.proofs.SinkLaws.{dump-append, dump-one}

pub nothing_found : (octets : List ℕ) → octets ≡ [] → ArePackets octets
nothing_found octets is = record { bodies = []; fit = All-nil IsBody; whole = is }

pub joined : (front back : List ℕ) → ArePackets front → ArePackets back → ArePackets (front ++ back)
joined front back one two = record {
  bodies = one.bodies ++ two.bodies;
  fit = All-append IsBody one.bodies two.bodies one.fit two.fit;
  whole = ap (λ (t : List ℕ). t ++ back) one.whole ∙ ap (λ (t : List ℕ). flat_map framed one.bodies ++ t) two.whole ∙ sym (flat_map-append framed one.bodies two.bodies);
}

one_packet : (octets body : List ℕ) → IsBody body → octets ≡ framed body → ArePackets octets
one_packet octets body fits is = record {
  bodies = [] ++ body ∷ [];
  fit = All-push IsBody [] body (All-nil IsBody) fits;
  whole = is ∙ sym (append-nil (framed body));
}

in_payload : (place : Place) (ends : Ends) (payload : List ℕ) (what : Found) → PayloadIs place ends payload what → ArePackets (octets_found what)
in_payload place ends payload what (inl (body, begins, is)) = one_packet (octets_found what) body begins.0 (ap octets_found is)
in_payload place ends payload what (inr (inl (short, is))) = nothing_found (octets_found what) (ap octets_found is)
in_payload place ends payload what (inr (inr (inl (header, magic, is)))) = nothing_found (octets_found what) (ap octets_found is)
in_payload place ends payload what (inr (inr (inr (header, magic, version, is)))) = nothing_found (octets_found what) (ap octets_found is)

in_lack : (accepted : Bool) (named : Option Address) (place : Place) (sender : Address) (lack : Lack) (what : Found)
    → what ≡ (if accepted then left (lack_reason lack) None else missed_found named place sender lack) → ArePackets (octets_found what)
in_lack true named place sender lack what is = nothing_found (octets_found what) (ap octets_found is)
in_lack false None place sender lack what is = nothing_found (octets_found what) (ap octets_found is)
in_lack false (Some named) place sender lack what is = nothing_found (octets_found what) (ap octets_found is)

in_carried : (wanted : Wanted) (place : Place) (ends : Ends) (carried : Carried) (what : Found) → CarriedIs wanted place ends carried what → ArePackets (octets_found what)
in_carried wanted place ends other_port what is = nothing_found (octets_found what) (ap octets_found is)
in_carried wanted place ends not_link_local what is = nothing_found (octets_found what) (ap octets_found is)
in_carried wanted place ends (lacking lack) what is = in_lack (wanted.accepts_missing && lacks_fragments lack) wanted.sender place ends.sender lack what is
in_carried wanted place ends (carries payload) what is = in_payload place ends payload what is

pub in_sight : (wanted : Wanted) (sight : Sight) (what : Found) → Finds wanted sight what → ArePackets (octets_found what)
in_sight wanted other what is = nothing_found (octets_found what) (ap octets_found is)
in_sight wanted too_short what is = nothing_found (octets_found what) (ap octets_found is)
in_sight wanted (fragmented fragment) what is = nothing_found (octets_found what) (ap octets_found is)
in_sight wanted (datagram place ends carried) what (inl (is_wanted, is)) = in_carried wanted place ends carried what is
in_sight wanted (datagram place ends carried) what (inr (not, is)) = nothing_found (octets_found what) (ap octets_found is)

in_made : (wanted : Wanted) (sightings : List Sighting) (made : List Made) → AreMade wanted sightings made → ArePackets (dump_of made)
in_made wanted [] made is = nothing_found (dump_of made) (ap dump_of is)
in_made wanted (sighting ∷ later) made (one, others, is, number, link, came, finds, takes, are) =
    subst ArePackets (ap (λ (t : List ℕ). t ++ dump_of others) (sym (dump-one one)) ∙ sym (dump-append (one ∷ []) others) ∙ ap dump_of (sym is))
    (joined (octets_found one.what) (dump_of others) (in_sight wanted sighting.what one.what finds) (in_made wanted later others are))

pub dump_packets : (limit : Extent) (octets : List ℕ) (gathering : Gathering) → (read : IsRead limit octets gathering) → ArePackets (dump_of read.gathered.made)
dump_packets limit octets gathering read = in_made gathering.wanted (sightings_to_end read.blocks) read.gathered.made read.gathered.taken.are_made
