-- What the octets behind some TLVs of a body say of the whole body.
use Rattle.std.proofs.Common.{◌≡◌, ℕ, ◌+◌, ◌-◌, List, ◌++◌, length, sym, ap, subst, ◌∙◌, append_assoc, arith}
use Rattle.std.specs.Prelude.{Result, Ok, Err, MatchResult, OnOk, IfErr}
use Rattle.std.specs.List.{flat_map}
use Rattle.std.proofs.lemmas.List.{length-append}
use Rattle.std.proofs.lemmas.List.Concat.{flat_map-append}
use Rattle.babel_tlv.specs.declared.fault.Fault.{Fault}
use Rattle.babel_tlv.specs.declared.tlvs.Tlvs.{Tlvs}
use Rattle.babel_tlv.specs.FrameFaults.{AreTlvs, TlvPastEndAt}
use Rattle.babel_tlv.specs.Framing.{TlvAt, ArePlaced, tlv_octets, tlvs_of}
use Rattle.babel_tlv.specs.Left.{BeginsTlv}
use Rattle.babel_tlv.specs.Left.{HasRead}
use Rattle.babel_tlv.proofs.Reading.{ReadSoFar, ReadSoFar-step, tlvs_of-AreTlvs}
use Rattle.babel_tlv.proofs.Telling.{ArePlaced-append}

so_far : (at : ℕ) (body : List ℕ) (tlvs : Tlvs) → HasRead at body tlvs → ReadSoFar at body tlvs.octets.now tlvs.at
so_far at body tlvs has = record { front = has.front; whole = has.whole; placed = has.placed; here = has.here }

-- one TLV more
pub read-next : (old new : Tlvs) (kind : ℕ) (tlv_body : List ℕ) → BeginsTlv old.octets.now kind tlv_body new.octets.now
    → new.at ≡ old.at + (length old.octets.now - length new.octets.now) → (at : ℕ) (body : List ℕ) → HasRead at body old → HasRead at body new
read-next old new kind tlv_body begins place at body has =
    let on : ReadSoFar at body new.octets.now new.at =
    subst (λ (p : ℕ). ReadSoFar at body new.octets.now p) (sym place) (ReadSoFar-step at body old.octets.now new.octets.now old.at kind tlv_body (so_far at body old has) begins) in
    record { front = on.front; whole = on.whole; placed = on.placed; here = on.here }

joined : (front tlvs : List TlvAt) → flat_map tlv_octets (front ++ tlvs) ≡ flat_map tlv_octets front ++ flat_map tlv_octets tlvs
joined front tlvs = flat_map-append tlv_octets front tlvs

-- the rest is TLVs, and so is the body
whole-behind : (left : Tlvs) → AreTlvs left.at left.octets.now (tlvs_of left.at left.octets.now) → (at : ℕ) (body : List ℕ) → HasRead at body left → AreTlvs at body (tlvs_of at body)
whole-behind left rest at body has =
    let tlvs : List TlvAt = tlvs_of left.at left.octets.now in
    let parts : AreTlvs at body (has.front ++ tlvs) = record {
      whole = has.whole ∙ ap (λ (o : List ℕ). flat_map tlv_octets has.front ++ o) rest.whole ∙ sym (joined has.front tlvs);
      placed = ArePlaced-append at has.front tlvs has.placed (subst (λ (a : ℕ). ArePlaced a tlvs) has.here rest.placed);
    } in
    subst (λ (t : List TlvAt). AreTlvs at body t) (sym (tlvs_of-AreTlvs at body (has.front ++ tlvs) parts)) parts

-- no TLV begins at a place of the rest, which is a place of the body
past_end-behind : (left : Tlvs) (fault : Fault) → TlvPastEndAt left.at left.octets.now fault → (at : ℕ) (body : List ℕ) → HasRead at body left → TlvPastEndAt at body fault
past_end-behind left fault (place, (tlvs, rest, whole, placed, begins, here), is) at body has = (
  place,
  (
    has.front ++ tlvs,
    rest,
    has.whole ∙ ap (λ (o : List ℕ). flat_map tlv_octets has.front ++ o) whole ∙ sym (append_assoc (flat_map tlv_octets has.front) (flat_map tlv_octets tlvs) rest)
        ∙ ap (λ (o : List ℕ). o ++ rest) (sym (joined has.front tlvs)),
    ArePlaced-append at has.front tlvs has.placed (subst (λ (a : ℕ). ArePlaced a tlvs) has.here placed),
    begins,
    omega (arith, here, has.here, ap length (joined has.front tlvs), length-append (flat_map tlv_octets has.front) (flat_map tlv_octets tlvs)),
  ),
  is,
)

-- ---- what `check_body` answers of the rest

abbrev CheckedRest : {T : Type 0} → Tlvs → Result T Fault → Type 0
CheckedRest left answer = MatchResult answer (λ _. AreTlvs left.at left.octets.now (tlvs_of left.at left.octets.now)) (λ fault. TlvPastEndAt left.at left.octets.now fault)

pub checked-whole : {T : Type 0} (left : Tlvs) (answer : Result T Fault) → CheckedRest left answer
    → OnOk answer ((at : ℕ) (body : List ℕ) → HasRead at body left → AreTlvs at body (tlvs_of at body))
checked-whole left (Ok x) checked = whole-behind left checked
checked-whole left (Err fault) checked = tt

pub checked-past_end : {T : Type 0} (left : Tlvs) (answer : Result T Fault) → CheckedRest left answer
    → IfErr answer (λ fault. (at : ℕ) (body : List ℕ) → HasRead at body left → TlvPastEndAt at body fault)
checked-past_end left (Ok x) checked = tt
checked-past_end left (Err fault) checked = past_end-behind left fault checked
