-- Packets, taken one by one.
use Rattle.std.proofs.Common.{◌≡◌, ℕ, ◌+◌, ◌≤◌, List, [], ◌∷◌, ◌++◌, length, take, drop, ◌-◌, length-drop, refl, sym, ap, subst, ◌∙◌, append_assoc, arith, inl, inr}
use Rattle.std.specs.Prelude.{◌⊎◌}
use Rattle.std.specs.List.{flat_map}
use Rattle.std.proofs.lemmas.List.{append-nil, length-append, drop_at, take_all}
use Rattle.std.proofs.lemmas.List.Concat.{flat_map-append}
use Rattle.babel_tlv.specs.declared.start.Start.{Start}
use Rattle.babel_tlv.specs.declared.fault.Fault.{Fault}
use Rattle.babel_tlv.specs.declared.mode.Mode.{Mode}
use Rattle.babel_tlv.specs.FrameFaults.{BeginsPacket, AreTlvs}
use Rattle.babel_tlv.specs.Framing.{TlvAt, ArePlaced, ArePackets, IsBody, framed, tlv_octets, packet_octets, tlvs_of}
use Rattle.babel_tlv.specs.Says.{Saying, sayings, sayings_after}
use Rattle.babel_table.specs.Feeding.{StandsBehind, Takes, Fails, TookPackets}
use Rattle.babel_table.specs.Rows.{Routes}

pub packets-none : (mode : Mode) (entries : ℕ) (start : Start) (at : ℕ) (octets : List ℕ) (old : Routes) → TookPackets mode entries start at octets old old octets at
packets-none mode entries start at octets old = record {
  packets = [];
  whole = refl;
  placed = tt;
  here = omega arith;
  takes = λ before stands. subst (StandsBehind mode entries old) (sym (append-nil before)) stands;
}

pub length-framed : (body : List ℕ) → length (framed body) ≡ 4 + length body
length-framed body = omega arith

pub placed-push : (at : ℕ) (packets : List (List TlvAt)) (tlvs : List TlvAt) (place : ℕ) → ArePackets at packets
    → place ≡ at + length (flat_map packet_octets packets) → IsBody (flat_map tlv_octets tlvs) → ArePlaced (place + 4) tlvs
    → ArePackets at (packets ++ tlvs ∷ [])
placed-push at [] tlvs place placed here fits parts = (fits, subst (λ (p : ℕ). ArePlaced (p + 4) tlvs) (omega (arith, here)) parts, tt)
placed-push at (first ∷ packets) tlvs place placed here fits parts = (
  placed.0,
  placed.1,
  placed-push (at + length (packet_octets first)) packets tlvs place placed.2
      (omega (arith, here, length-append (packet_octets first) (flat_map packet_octets packets))) fits parts,
)

pub packets-next : (mode : Mode) (entries : ℕ) (start : Start) (at : ℕ) (octets : List ℕ) (old now next : Routes) (rest body : List ℕ) (place : ℕ)
    → TookPackets mode entries start at octets old now rest place
    → BeginsPacket rest body → AreTlvs (place + 4) body (tlvs_of (place + 4) body) → Takes mode entries (sayings_after start [] (tlvs_of (place + 4) body)) now next
    → TookPackets mode entries start at octets old next (drop (4 + length body) rest) (place + (4 + length body))
packets-next mode entries start at octets old now next rest body place took (fits, behind, is_rest) parts takes =
    let tlvs : List TlvAt = tlvs_of (place + 4) body in
    let is_body : flat_map tlv_octets tlvs ≡ body = sym parts.whole in
    let is_packet : packet_octets tlvs ≡ framed body = ap framed is_body in
    let dropped : drop (4 + length body) rest ≡ behind = ap (drop (4 + length body)) is_rest ∙ drop_at (framed body) behind (4 + length body) (length-framed body) in
    let joined : flat_map packet_octets (took.packets ++ tlvs ∷ []) ≡ flat_map packet_octets took.packets ++ framed body =
    flat_map-append packet_octets took.packets (tlvs ∷ []) ∙ ap (λ (t : List ℕ). flat_map packet_octets took.packets ++ t) (append-nil (packet_octets tlvs) ∙ is_packet) in
    let said : sayings start (took.packets ++ tlvs ∷ []) ≡ sayings start took.packets ++ sayings_after start [] tlvs =
    flat_map-append (sayings_after start []) took.packets (tlvs ∷ []) ∙ ap (λ (t : List Saying). sayings start took.packets ++ t) (append-nil (sayings_after start [] tlvs)) in
    record {
      packets = took.packets ++ tlvs ∷ [];
      whole = took.whole ∙ ap (λ (t : List ℕ). flat_map packet_octets took.packets ++ t) is_rest ∙ sym (append_assoc (flat_map packet_octets took.packets) (framed body) behind)
          ∙ ap (λ (t : List ℕ). t ++ behind) (sym joined) ∙ ap (λ (t : List ℕ). flat_map packet_octets (took.packets ++ tlvs ∷ []) ++ t) (sym dropped);
      placed = placed-push at took.packets tlvs place took.placed took.here (subst IsBody (sym is_body) fits) parts.placed;
      here = rw joined (omega (arith, took.here, length-append (flat_map packet_octets took.packets) (framed body), length-framed body));
      takes = λ before stands. subst (λ (s : List Saying). StandsBehind mode entries next s)
          (append_assoc before (sayings start took.packets) (sayings_after start [] tlvs) ∙ ap (λ (s : List Saying). before ++ s) (sym said))
          (takes (before ++ sayings start took.packets) (took.takes before stands));
    }

-- ---- as a loop meets them

pub used-fits : (rest body : List ℕ) (used : ℕ) → BeginsPacket rest body → used ≡ 4 + length body → used ≤ length rest
used-fits rest body used (fits, behind, is) is_used = omega (arith, is_used, ap length is, length-append (framed body) behind, length-framed body)

pub takes-at : (m mode : Mode) (e entries : ℕ) → m ≡ mode → e ≡ entries → (said : List Saying) (now next : Routes) → Takes m e said now next → Takes mode entries said now next
takes-at m mode e entries is_m is_e said now next takes = subst (λ (n : ℕ). Takes mode n said now next) is_e (subst (λ (o : Mode). Takes o e said now next) is_m takes)

fails-at : (m mode : Mode) (e entries : ℕ) → m ≡ mode → e ≡ entries → (said : List Saying) (now : Routes) (fault : Fault) → Fails m e said now fault → Fails mode entries said now fault
fails-at m mode e entries is_m is_e said now fault fails = subst (λ (n : ℕ). Fails mode n said now fault) is_e (subst (λ (o : Mode). Fails o e said now fault) is_m fails)

pub body-stops : (m mode : Mode) (e entries : ℕ) → m ≡ mode → e ≡ entries → {Past Whole : Type 0} (said : List Saying) (now : Routes) (fault : Fault)
    → Past ⊎ (Whole × Fails m e said now fault) → Past ⊎ (Whole × Fails mode entries said now fault)
body-stops m mode e entries is_m is_e said now fault (inl past) = inl past
body-stops m mode e entries is_m is_e said now fault (inr (whole, fails)) = inr (whole, fails-at m mode e entries is_m is_e said now fault fails)

pub packets-next_used : (mode : Mode) (entries : ℕ) (start : Start) (at : ℕ) (octets : List ℕ) (old now next : Routes) (rest body : List ℕ)
    (place used : ℕ) → used ≡ 4 + length body → TookPackets mode entries start at octets old now rest place
    → BeginsPacket rest body → AreTlvs (place + 4) body (tlvs_of (place + 4) body) → Takes mode entries (sayings_after start [] (tlvs_of (place + 4) body)) now next
    → TookPackets mode entries start at octets old next (drop used rest) (place + used)
packets-next_used mode entries start at octets old now next rest body place used is took begins parts takes =
    subst (λ (n : ℕ). TookPackets mode entries start at octets old next (drop n rest) (place + n)) (sym is)
    (packets-next mode entries start at octets old now next rest body place took begins parts takes)

-- how many octets were taken says what the rest is, and where it begins
module _ (mode : Mode) (entries : ℕ) (start : Start) (at : ℕ) (octets : List ℕ) (old now : Routes) (rest : List ℕ) (place : ℕ)
    (took : TookPackets mode entries start at octets old now rest place) where
  lengths : length octets ≡ length (flat_map packet_octets took.packets) + length rest
  lengths = ap length took.whole ∙ length-append (flat_map packet_octets took.packets) rest

  pub rest-left : drop (length octets - length rest) octets ≡ rest
  rest-left = ap (drop (length octets - length rest)) took.whole ∙ drop_at (flat_map packet_octets took.packets) rest (length octets - length rest) (omega (arith, lengths))

  pub took-left : TookPackets mode entries start at octets old now (drop (length octets - length rest) octets) (at + (length octets - length rest))
  took-left =
      let here : place ≡ at + (length octets - length rest) = omega (arith, took.here, lengths) in
      rw (rest-left, ← here) took

-- what a slice from n on is
pub rest-whole : (n : ℕ) (xs : List ℕ) → take (length xs - n) (drop n xs) ≡ drop n xs
rest-whole n xs = take_all (length xs - n) (drop n xs) (omega (arith, length-drop n xs))
