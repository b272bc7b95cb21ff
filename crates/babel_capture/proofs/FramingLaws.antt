-- Whole packets have no fault of framing but a TLV past the end of its packet.
use Rattle.std.proofs.Common.{◌≡◌, ◌≢◌, ℕ, ◌+◌, List, [], ◌∷◌, ◌++◌, length, sym, ap, subst, ◌∙◌, append_assoc, inl, inr, arith}
use Rattle.std.specs.List.{All, flat_map}
use Rattle.std.proofs.lemmas.List.Elements.{All-head, All-tail}
use Rattle.babel_tlv.specs.declared.fault.Fault.{Fault}
use Rattle.babel_tlv.specs.Framing.{TlvAt, ArePackets as ArePlacedPackets, IsBody, tlv_octets, framed, packet_octets}
use Rattle.babel_tlv.specs.FrameFaults.{FrameFault, PacketFault}
use Rattle.babel_tlv.proofs.OneReading.{has_body, header_fine}
use Rattle.babel_tlv.proofs.OneReading.{framed_one}
use Rattle.babel_capture.specs.Packets.{ArePackets, IsPastEnd}

past_end : (at : ℕ) (body more : List ℕ) (fault : Fault) → IsBody body → PacketFault at (framed body ++ more) fault → IsPastEnd fault
past_end at body more fault fits (inl (is, inl short)) = absurd (omega (arith, short))
past_end at body more fault fits (inl (is, inr lacks)) = absurd (has_body body more fits lacks)
past_end at body more fault fits (inr (inl header)) = absurd (header_fine at body more fault header)
past_end at body more fault fits (inr (inr (other, begins, (place, stops, is)))) = subst IsPastEnd (sym is) tt

-- what comes after some of the packets
after : (at place : ℕ) (bodies : List (List ℕ)) (packets : List (List TlvAt)) (rest : List ℕ) (fault : Fault) → All IsBody bodies → ArePlacedPackets at packets
    → flat_map framed bodies ≡ flat_map packet_octets packets ++ rest → rest ≢ [] → PacketFault place rest fault → IsPastEnd fault
after at place [] [] rest fault fit placed same some faulty = absurd (some (sym same))
after at place (body ∷ bodies) [] rest fault fit placed same some faulty =
    past_end place body (flat_map framed bodies) fault (All-head IsBody body bodies fit) (subst (λ (t : List ℕ). PacketFault place t fault) (sym same) faulty)
after at place [] (tlvs ∷ packets) rest fault fit placed same some faulty =
    absurd (omega (arith, ap length same))
after at place (body ∷ bodies) (tlvs ∷ packets) rest fault fit placed same some faulty =
    let first = framed_one body (flat_map tlv_octets tlvs) (flat_map framed bodies) (flat_map packet_octets packets ++ rest) (All-head IsBody body bodies fit) placed.0
    (same ∙ append_assoc (packet_octets tlvs) (flat_map packet_octets packets) rest) in
    after (at + length (packet_octets tlvs)) place bodies packets rest fault (All-tail IsBody body bodies fit) placed.2 first.1 some faulty

pub framing_fine : (octets : List ℕ) → ArePackets octets → (fault : Fault) → FrameFault octets fault → IsPastEnd fault
framing_fine octets are fault (packets, rest, reads, some, faulty) =
    after 0 (length (flat_map packet_octets packets)) are.bodies packets rest fault are.fit reads.placed (sym are.whole ∙ reads.whole) some faulty
