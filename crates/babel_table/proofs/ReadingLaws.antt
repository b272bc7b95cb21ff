-- Octets are read as whole packets, and a rest that begins with none, in one way.
use Rattle.std.proofs.Common.{◌≡◌, ℕ, ◌+◌, List, [], ◌∷◌, ◌++◌, length, take, drop, refl, sym, ap, subst, ◌∙◌, append_assoc, inl, inr, arith}
use Rattle.std.specs.Prelude.{◌⊎◌}
use Rattle.std.specs.List.{flat_map}
use Rattle.std.proofs.lemmas.List.{append-nil, length-append, take_at, drop_at}
use Rattle.babel_tlv.specs.Framing.{TlvAt, ArePlaced, ArePackets, ReadsAs, IsBody, framed, packet_octets, tlv_octets, tlvs_of}
use Rattle.babel_tlv.specs.FrameFaults.{HasNoTlvAt, BeginsPacket, body_len}
use Rattle.babel_tlv.proofs.Reading.{tlvs_of-append}
use Rattle.babel_table.specs.Feeding.{IsPartial}
use Rattle.babel_tlv.proofs.OneReading.{tlvs_one}
use Rattle.babel_tlv.proofs.SubTlvLaws.{tlvs_of-stuck}

-- ---- one packet

pub body_len-framed : (body rest : List ℕ) → IsBody body → body_len (framed body ++ rest) ≡ length body
body_len-framed body rest fits = omega (arith, fits)

pub length-framed : (body rest : List ℕ) → length (framed body ++ rest) ≡ 4 + (length body + length rest)
length-framed body rest = omega (arith, length-append body rest)

-- less than a packet begins with no packet
pub partial-no_packet : (octets body : List ℕ) → IsPartial octets → BeginsPacket octets body → ⊥
partial-no_packet octets body (inl short) (fits, rest, is) = absurd (omega (arith, short, ap length is, length-framed body rest))
partial-no_packet octets body (inr lacks) (fits, rest, is) =
    absurd (omega (arith, lacks.3, ap body_len is, body_len-framed body rest fits, ap length is, length-framed body rest))

-- the body that octets begin with is one
pub one_body : (body other rest behind : List ℕ) → IsBody body → IsBody other → framed body ++ rest ≡ framed other ++ behind → (body ≡ other) × (rest ≡ behind)
one_body body other rest behind fits other_fits same =
    let len : length body ≡ length other = sym (body_len-framed body rest fits) ∙ ap body_len same ∙ body_len-framed other behind other_fits in
    let bodies : body ++ rest ≡ other ++ behind = ap (drop 4) same in (
      sym (take_at body rest (length other) len) ∙ ap (take (length other)) bodies ∙ take_at other behind (length other) refl,
      sym (drop_at body rest (length other) len) ∙ ap (drop (length other)) bodies ∙ drop_at other behind (length other) refl,
    )

-- ---- the TLVs of a body

front-read : (at : ℕ) (front : List TlvAt) (rest : List ℕ) → ArePlaced at front
    → tlvs_of at (flat_map tlv_octets front ++ rest) ≡ front ++ tlvs_of (at + length (flat_map tlv_octets front)) rest
front-read at [] rest placed = ap (λ (n : ℕ). tlvs_of n rest) (omega arith)
front-read at (tlv ∷ front) rest placed =
    let len : at + length (tlv_octets tlv) + length (flat_map tlv_octets front) ≡ at + length (tlv_octets tlv ++ flat_map tlv_octets front) =
    omega (arith, length-append (tlv_octets tlv) (flat_map tlv_octets front)) in
    ap (tlvs_of at) (append_assoc (tlv_octets tlv) (flat_map tlv_octets front) rest)
    ∙ tlvs_of-append at tlv (flat_map tlv_octets front ++ rest) placed.1 placed.0
    ∙ ap (λ (t : List TlvAt). tlv ∷ t) (front-read (at + length (tlv_octets tlv)) front rest placed.2)
    ∙ ap (λ (n : ℕ). tlv ∷ front ++ tlvs_of n rest) len

-- the TLVs before the place where none begins are those that are read
stopped-read : (at place : ℕ) (body : List ℕ) (stops : HasNoTlvAt at body place) → tlvs_of at body ≡ stops.0
stopped-read at place body (front, rest, whole, front_placed, stuck, here) =
    ap (tlvs_of at) whole ∙ front-read at front rest front_placed
    ∙ ap (λ (t : List TlvAt). front ++ t) (tlvs_of-stuck (at + length (flat_map tlv_octets front)) rest stuck) ∙ append-nil front

-- there is one such place
pub stop_one : (at place other : ℕ) (body : List ℕ) → HasNoTlvAt at body place → HasNoTlvAt at body other → place ≡ other
stop_one at place other body stops other_stops =
    stops.5 ∙ ap (λ (t : List TlvAt). at + length (flat_map tlv_octets t)) (sym (stopped-read at place body stops) ∙ stopped-read at other body other_stops) ∙ sym other_stops.5

-- ---- packets

-- octets at this place that don't begin with a packet whose body is TLVs
abbrev pub BeginsNoPacket : ℕ → List ℕ → Type 0
BeginsNoPacket place rest = (tlvs : List TlvAt) (behind : List ℕ) → IsBody (flat_map tlv_octets tlvs) → ArePlaced (place + 4) tlvs → rest ≡ packet_octets tlvs ++ behind → ⊥

pub partial-stuck : (place : ℕ) (rest : List ℕ) → IsPartial rest → BeginsNoPacket place rest
partial-stuck place rest partial tlvs behind fits placed is = partial-no_packet rest (flat_map tlv_octets tlvs) partial (fits, behind, is)

pub placed-drop : (at : ℕ) (a b : List (List TlvAt)) → ArePackets at (a ++ b) → ArePackets (at + length (flat_map packet_octets a)) b
placed-drop at [] b placed = subst (λ (n : ℕ). ArePackets n b) (omega arith) placed
placed-drop at (tlvs ∷ a) b placed =
    subst (λ (n : ℕ). ArePackets n b) (omega (arith, length-append (packet_octets tlvs) (flat_map packet_octets a)))
    (placed-drop (at + length (packet_octets tlvs)) a b placed.2)

-- octets that are read as packets in one way are, in another, these packets and then more of them
abbrev pub GoesOn : List (List TlvAt) → List ℕ → List (List TlvAt) → List ℕ → Type 0
GoesOn packets rest others behind = (more : List (List TlvAt)) × (packets ≡ others ++ more) × (behind ≡ flat_map packet_octets more ++ rest)

-- of two readings one goes on where the other ends
pub either_on : (at : ℕ) (packets others : List (List TlvAt)) (rest behind : List ℕ) → ArePackets at packets → ArePackets at others
    → flat_map packet_octets packets ++ rest ≡ flat_map packet_octets others ++ behind → GoesOn packets rest others behind ⊎ GoesOn others behind packets rest
either_on at packets [] rest behind placed others_placed same = inl (packets, refl, sym same)
either_on at [] (other ∷ others) rest behind placed others_placed same = inr (other ∷ others, refl, same)
either_on at (tlvs ∷ packets) (other ∷ others) rest behind placed others_placed same =
    let both = one_body (flat_map tlv_octets tlvs) (flat_map tlv_octets other) (flat_map packet_octets packets ++ rest) (flat_map packet_octets others ++ behind) placed.0 others_placed.0
    (sym (append_assoc (packet_octets tlvs) (flat_map packet_octets packets) rest) ∙ same ∙ append_assoc (packet_octets other) (flat_map packet_octets others) behind) in
    let one : tlvs ≡ other = tlvs_one (at + 4) tlvs other placed.1 others_placed.1 both.0 in
    elim (either_on (at + length (packet_octets tlvs)) packets others rest behind placed.2
    (subst (λ (t : List TlvAt). ArePackets (at + length (packet_octets t)) others) (sym one) others_placed.2) both.1) [
      | inl later ↦ inl (later.0, ap (λ (t : List TlvAt). t ∷ packets) one ∙ ap (λ (t : List (List TlvAt)). other ∷ t) later.1, later.2)
      | inr later ↦ inr (later.0, ap (λ (t : List TlvAt). t ∷ others) (sym one) ∙ ap (λ (t : List (List TlvAt)). tlvs ∷ t) later.1, later.2)
    ]

-- a reading whose rest begins with no packet goes on where any other ends
pub packets_one : (at place : ℕ) (packets others : List (List TlvAt)) (rest behind : List ℕ) → place ≡ at + length (flat_map packet_octets packets) → ArePackets at packets → ArePackets at others
    → BeginsNoPacket place rest → flat_map packet_octets packets ++ rest ≡ flat_map packet_octets others ++ behind → GoesOn packets rest others behind
packets_one at place packets others rest behind here placed others_placed stuck same =
    elim (either_on at packets others rest behind placed others_placed same) [
      | inl on ↦ on
      | inr on ↦ by on.0 on.1 on.2
    ]
  where
    by : (more : List (List TlvAt)) → others ≡ packets ++ more → rest ≡ flat_map packet_octets more ++ behind → GoesOn packets rest others behind
    by [] is is_rest = ([], sym (append-nil others ∙ is ∙ append-nil packets), sym is_rest)
    by (tlvs ∷ more) is is_rest =
        let later : ArePackets place (tlvs ∷ more) = subst (λ (n : ℕ). ArePackets n (tlvs ∷ more)) (sym here) (placed-drop at packets (tlvs ∷ more) (subst (ArePackets at) is others_placed)) in
        absurd (stuck tlvs (flat_map packet_octets more ++ behind) later.0 later.1 (is_rest ∙ append_assoc (packet_octets tlvs) (flat_map packet_octets more) behind))

-- two readings whose rests begin with no packet are one
pub readings_one : (octets rest behind : List ℕ) (packets others : List (List TlvAt)) → ReadsAs octets packets rest → ReadsAs octets others behind
    → BeginsNoPacket (length (flat_map packet_octets packets)) rest → BeginsNoPacket (length (flat_map packet_octets others)) behind → (packets ≡ others) × (rest ≡ behind)
readings_one octets rest behind packets others reads other_reads stuck other_stuck =
    let on = packets_one 0 (length (flat_map packet_octets packets)) packets others rest behind (omega arith) reads.placed other_reads.placed stuck (sym reads.whole ∙ other_reads.whole) in
    by on.0 on.1 on.2
  where
    by : (more : List (List TlvAt)) → packets ≡ others ++ more → behind ≡ flat_map packet_octets more ++ rest → (packets ≡ others) × (rest ≡ behind)
    by [] is is_behind = (is ∙ append-nil others, sym is_behind)
    by (tlvs ∷ more) is is_behind =
        let later : ArePackets (length (flat_map packet_octets others)) (tlvs ∷ more) =
        subst (λ (n : ℕ). ArePackets n (tlvs ∷ more)) (omega arith) (placed-drop 0 others (tlvs ∷ more) (subst (ArePackets 0) is reads.placed)) in
        absurd (other_stuck tlvs (flat_map packet_octets more ++ rest) later.0 later.1 (is_behind ∙ append_assoc (packet_octets tlvs) (flat_map packet_octets more) rest))

-- octets are whole packets in one way
pub framed_one : (octets : List ℕ) (packets others : List (List TlvAt)) → ReadsAs octets packets [] → ReadsAs octets others [] → packets ≡ others
framed_one octets packets others reads other_reads =
    (readings_one octets [] [] packets others reads other_reads (none (length (flat_map packet_octets packets))) (none (length (flat_map packet_octets others)))).0
  where
    none : (place : ℕ) → BeginsNoPacket place []
    none place = partial-stuck place [] (inl (omega arith))
