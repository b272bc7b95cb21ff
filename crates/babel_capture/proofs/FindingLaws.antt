-- What is made of a packet.
use Rattle.std.proofs.Common.{◌≡◌, ℕ, ◌+◌, List, length, nat_lt, take, ap, sym, ◌∙◌, inl, arith}
use Rattle.std.proofs.lemmas.List.{take_at}
use Rattle.babel_capture.specs.declared.ends.Ends.{Ends}
use Rattle.babel_tlv.specs.Framing.{framed}
use Rattle.babel_tlv.specs.FrameFaults.{BeginsPacket}
use Rattle.babel_capture.specs.declared.place.Place.{Place}
use Rattle.babel_capture.specs.Findings.{found, PayloadIs}

pub packet_found : (place : Place) (ends : Ends) (payload body : List ℕ) (used : ℕ) → BeginsPacket payload body → used ≡ 4 + length body
    → PayloadIs place ends payload (found place ends (take used payload) (nat_lt used (length payload)))
packet_found place ends payload body used (fits, rest, is) is_used =
    let len : used ≡ length (framed body) = omega (arith, is_used) in
    inl (
      body,
      (fits, rest, is),
      ap (λ (octets : List ℕ). found place ends octets (nat_lt used (length payload))) (ap (take used) is ∙ take_at (framed body) rest used (sym len))
          ∙ ap (λ (n : ℕ). found place ends (framed body) (nat_lt n (length payload))) len,
    )
