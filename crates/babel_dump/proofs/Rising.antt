-- The TLVs of a dump come at rising places.
use Rattle.std.proofs.Common.{◌≡◌, ℕ, suc, zero, ◌+◌, ◌<◌, ◌≤◌, List, [], ◌∷◌, ◌++◌, length, get_or, sym, subst, arith}
use Rattle.std.specs.List.{AllPairs, flat_map}
use Rattle.std.proofs.lemmas.List.{length-append}
use Rattle.std.proofs.lemmas.List.Kept.{AllPairs-cons}
use Rattle.babel_tlv.specs.declared.start.Start.{Start}
use Rattle.babel_tlv.specs.Framing.{ArePackets, ArePlaced, TlvAt, laid_out, packet_octets, tlv_octets}
use Rattle.babel_tlv.specs.Says.{Saying, sayings, sayings_after}
use Rattle.babel_dump.specs.FirstIgnored.{OffsetsOfDumpsRise}

module _ {A : Type 0} (place_of : A → ℕ) where
  -- each is at a higher place than the one before, and the first at this place or a higher one
  abbrev RiseFrom : ℕ → List A → Type 0
  RiseFrom from [] = Unit {0}
  RiseFrom from (x ∷ xs) = (from ≤ place_of x) × RiseFrom (suc (place_of x)) xs

  from_lower : (lower from : ℕ) (xs : List A) → lower ≤ from → RiseFrom from xs → RiseFrom lower xs
  from_lower lower from [] le rise = tt
  from_lower lower from (x ∷ xs) le rise = (omega (arith, rise.0), rise.1)

  above : (from : ℕ) (xs : List A) → RiseFrom from xs → (k : ℕ) (d : A) → k < length xs → from ≤ place_of (get_or xs k d)
  above from [] rise k d k_in = absurd (omega arith)
  above from (x ∷ xs) rise zero d k_in = rise.0
  above from (x ∷ xs) rise (suc k) d k_in = omega (arith, rise.0, above (suc (place_of x)) xs rise.1 k d (omega arith))

  pairs_rise : (from : ℕ) (xs : List A) → RiseFrom from xs → AllPairs (λ one later. place_of one < place_of later) xs
  pairs_rise from [] rise = λ i j d lt j_in. absurd (omega arith)
  pairs_rise from (x ∷ xs) rise = AllPairs-cons (λ one later. place_of one < place_of later) x xs
      (λ k d k_in. omega (arith, above (suc (place_of x)) xs rise.1 k d k_in)) (pairs_rise (suc (place_of x)) xs rise.1)

abbrev OffsetsFrom : ℕ → List Saying → Type 0
OffsetsFrom = RiseFrom (λ saying. saying.at)

some_octets : (kind : ℕ) (body : List ℕ) → 0 < length (laid_out kind body)
some_octets zero body = omega arith
some_octets (suc kind) body = omega arith

-- what comes after a packet's TLVs lies after them
packet_rises : (start : Start) (at : ℕ) (earlier tlvs : List TlvAt) (later : List Saying) → ArePlaced at tlvs → OffsetsFrom (at + length (flat_map tlv_octets tlvs)) later
    → OffsetsFrom at (sayings_after start earlier tlvs ++ later)
packet_rises start at earlier [] later placed rise = from_lower (λ saying. saying.at) at (at + 0) later (omega arith) rise
packet_rises start at earlier (tlv ∷ tlvs) later placed rise =
    let len = length (tlv_octets tlv) in
    let end : at + length (tlv_octets tlv ++ flat_map tlv_octets tlvs) ≡ at + len + length (flat_map tlv_octets tlvs) = omega (arith, length-append (tlv_octets tlv) (flat_map tlv_octets tlvs)) in
    let rest = packet_rises start (at + len) (tlv ∷ earlier) tlvs later placed.2 (subst (λ n. OffsetsFrom n later) end rise) in
    let told = sayings_after start (tlv ∷ earlier) tlvs ++ later in
    (omega (arith, placed.0), from_lower (λ saying. saying.at) (suc tlv.at) (at + len) told (omega (arith, placed.0, some_octets tlv.kind tlv.body)) rest)

packets_rise : (start : Start) (at : ℕ) (packets : List (List TlvAt)) → ArePackets at packets → OffsetsFrom at (sayings start packets)
packets_rise start at [] are = tt
packets_rise start at (tlvs ∷ packets) are =
    let end : at + length (packet_octets tlvs) ≡ at + 4 + length (flat_map tlv_octets tlvs) = omega arith in
    let later = subst (λ n. OffsetsFrom n (sayings start packets)) end (packets_rise start (at + length (packet_octets tlvs)) packets are.2) in
    from_lower (λ saying. saying.at) at (at + 4) (sayings start (tlvs ∷ packets)) (omega arith) (packet_rises start (at + 4) [] tlvs (sayings start packets) are.1 later)

pub offsets_of_dumps_rise : OffsetsOfDumpsRise
offsets_of_dumps_rise start dump packets rest reads = pairs_rise (λ saying. saying.at) 0 (sayings start packets) (packets_rise start 0 packets reads.placed)
