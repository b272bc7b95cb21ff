-- Sub-TLVs that are read from the left.
use Rattle.std.proofs.Common.{◌≡◌, ℕ, zero, suc, ◌+◌, ◌-◌, ◌<◌, Bool, true, false, cond, ltb, eqb, List, [], ◌∷◌, length}
use Rattle.std.proofs.Common.{Option, Some, None, Result, Ok, Err, refl, ap, ◌∙◌, arith}
use Rattle.std.specs.Prelude.{IfOk, IfSome, is_some, nat_le}
use Rattle.std.specs.List.{flat_map}
use Rattle.std.proofs.lemmas.Bool.Decides.{nat_tests}
use Rattle.std.proofs.lemmas.List.{length-append}
use Rattle.babel_prefix.specs.declared.family.Family.{Family}
use Rattle.babel_prefix.specs.Address.{AddressPrefix}
use Rattle.babel_tlv.specs.declared.place.Place.{Place}
use Rattle.babel_tlv.specs.declared.place.Place.TheVariants as places
use Rattle.babel_tlv.specs.declared.reason.Reason.{Reason}
use Rattle.babel_tlv.specs.declared.reason.Reason.TheVariants as reasons
use Rattle.babel_tlv.specs.FrameFaults.{BeginsNoTlv}
use Rattle.babel_tlv.specs.Framing.{TlvAt, laid_out, tlv_octets, tlvs_of}
use Rattle.babel_tlv.specs.Left.{BeginsTlv}
use Rattle.babel_tlv.specs.SubTlv.{and_then, is_bad_source, item_read, items_read, skipped, sub_tlvs}
use Rattle.babel_tlv.specs.Reading.{source_prefix}
use Rattle.babel_tlv.proofs.Reading.{one, tlvs_of-begins}

abbrev Given : Type 0
Given = Result (Option AddressPrefix) Reason

abbrev are_all_of : List ℕ → List TlvAt → Bool
are_all_of octets items = eqb (length (flat_map tlv_octets items)) (length octets)

-- nothing is read where no TLV begins
pub tlvs_of-stuck : (at : ℕ) (octets : List ℕ) → BeginsNoTlv octets → tlvs_of at octets ≡ []
tlvs_of-stuck at [] stuck = refl
tlvs_of-stuck at (zero ∷ []) stuck = absurd (stuck refl)
tlvs_of-stuck at (suc kind ∷ []) stuck = refl
tlvs_of-stuck at (zero ∷ len ∷ octets) stuck = absurd (stuck.0 refl)
tlvs_of-stuck at (suc kind ∷ len ∷ octets) stuck =
    let short : ltb (length octets) len ≡ true = grind (arith, nat_tests) in
    rw short refl

-- what is left, after items that gave this
abbrev pub rest_read : Place → Option AddressPrefix → ℕ → List ℕ → Result (Option AddressPrefix) Reason
rest_read place source at rest = items_read place (are_all_of rest (tlvs_of at rest)) source (tlvs_of at rest)

eqb-add : (a x y : ℕ) → eqb (a + x) (a + y) ≡ eqb x y
eqb-add a x y = grind (arith, nat_tests)

-- both ends lie as far after an item
all_of-begins : (octets : List ℕ) (kind : ℕ) (body rest : List ℕ) (at : ℕ) (items : List TlvAt) → BeginsTlv octets kind body rest
    → are_all_of octets (one at kind body ∷ items) ≡ are_all_of rest items
all_of-begins octets kind body rest at items begins =
    let front = length (laid_out kind body) in
    ap (λ (n : ℕ). eqb n (length octets)) (length-append (laid_out kind body) (flat_map tlv_octets items))
    ∙ ap (λ (n : ℕ). eqb (front + length (flat_map tlv_octets items)) n) (ap length begins.whole ∙ length-append (laid_out kind body) rest)
    ∙ eqb-add front (length (flat_map tlv_octets items)) (length rest)

-- an item's reading doesn't depend on where it lies
item_read-at : (place : Place) (source : Option AddressPrefix) (at kind : ℕ) (body : List ℕ) → item_read place source (one at kind body) ≡ item_read place source (one 0 kind body)
item_read-at (places.InUpdate family) source at kind body = refl
item_read-at places.InWildcard source at kind body = refl
item_read-at places.Elsewhere source at kind body = refl

abbrev after_item : Place → Given → ℕ → List ℕ → Given
after_item place given at rest = and_then given (λ source. rest_read place source at rest)

-- what the octets give, where an item is read first
pub rest_read-begins : (place : Place) (source : Option AddressPrefix) (at : ℕ) (octets : List ℕ) (kind : ℕ) (body rest : List ℕ) (given : Result (Option AddressPrefix) Reason)
    → BeginsTlv octets kind body rest → item_read place source (one 0 kind body) ≡ given
    → rest_read place source at octets ≡ and_then given (λ source. rest_read place source (at + (length octets - length rest)) rest)
rest_read-begins place source at octets kind body rest given begins is =
    let next = at + (length octets - length rest) in
    ap (λ (items : List TlvAt). items_read place (are_all_of octets items) source items) (tlvs_of-begins at octets kind body rest begins)
    ∙ ap (λ (whole : Bool). items_read place whole source (one at kind body ∷ tlvs_of next rest)) (all_of-begins octets kind body rest at (tlvs_of next rest) begins)
    ∙ ap (λ (given : Given). after_item place given next rest) (item_read-at place source at kind body ∙ is)

-- ---- as the code reads them

-- some items were read, and what they and the rest give is what all give
pub record SubTlvsSoFar (place : Place) (octets rest : List ℕ) (source : Option AddressPrefix) : Type 0 where
  pub at : ℕ
  pub same : sub_tlvs place octets ≡ rest_read place source at rest

-- an item is read
pub SubTlvsSoFar-on : (place : Place) (octets rest behind : List ℕ) (source given : Option AddressPrefix) (kind : ℕ) (body : List ℕ) → SubTlvsSoFar place octets rest source
    → BeginsTlv rest kind body behind → item_read place source (one 0 kind body) ≡ Ok given → SubTlvsSoFar place octets behind given
SubTlvsSoFar-on place octets rest behind source given kind body so_far begins is = record {
  at = so_far.at + (length rest - length behind);
  same = so_far.same ∙ rest_read-begins place source so_far.at rest kind body behind (Ok given) begins is;
}

other_read : (place : Place) (source : Option AddressPrefix) (kind : ℕ) (body : List ℕ) → eqb kind 128 ≡ false → item_read place source (one 0 kind body) ≡ skipped source (one 0 kind body)
other_read (places.InUpdate family) source kind body other = rw other refl
other_read places.InWildcard source kind body other = rw other refl
other_read places.Elsewhere source kind body other = refl

-- an item that isn't mandatory is passed over
pub optional_read : (place : Place) (source : Option AddressPrefix) (kind : ℕ) (body : List ℕ) → kind < 128 → item_read place source (one 0 kind body) ≡ Ok source
optional_read place source kind body optional =
    let low : nat_le 128 kind ≡ false = grind (arith, nat_tests) in
    other_read place source kind body (grind (arith, nat_tests)) ∙ rw low refl

-- ---- what a source prefix is, whatever its octets

module _ (Is : AddressPrefix → Type 0) (family : Family) (each : (body : List ℕ) → Is (source_prefix family body)) where
  skipped_is : (mandatory : Bool) (source : Option AddressPrefix) → IfSome source Is → IfOk (cond mandatory (Err reasons.UnknownMandatory) (Ok source)) (λ given. IfSome given Is)
  skipped_is true source is = tt
  skipped_is false source is = is

  item_is : (source : Option AddressPrefix) (item : TlvAt) → IfSome source Is → IfOk (item_read (places.InUpdate family) source item) (λ given. IfSome given Is)
  item_is source item is = by (eqb item.kind 128) (is_some source) (is_bad_source family item.body)
    where
      by : (here again bad : Bool) → IfOk (cond here (cond again (Err reasons.TwoSources) (cond bad (Err reasons.BadSource) (Ok (Some (source_prefix family item.body))))) (skipped source item))
          (λ given. IfSome given Is)
      by true true bad = tt
      by true false true = tt
      by true false false = each item.body
      by false again bad = skipped_is (nat_le 128 item.kind) source is

  on : (place : Place) (whole : Bool) (items : List TlvAt) (given : Given)
      → ((source : Option AddressPrefix) → IfSome source Is → IfOk (items_read place whole source items) (λ given. IfSome given Is))
      → IfOk given (λ source. IfSome source Is) → IfOk (and_then given (λ source. items_read place whole source items)) (λ given. IfSome given Is)
  on place whole items (Ok source) later is = later source is
  on place whole items (Err reason) later is = tt

  items_are : (whole : Bool) (source : Option AddressPrefix) (items : List TlvAt) → IfSome source Is → IfOk (items_read (places.InUpdate family) whole source items) (λ given. IfSome given Is)
  items_are true source [] is = is
  items_are false source [] is = tt
  items_are whole source (item ∷ items) is = on (places.InUpdate family) whole items (item_read (places.InUpdate family) source item) (λ given. items_are whole given items) (item_is source item is)

  pub sub_tlvs_are : (octets : List ℕ) → IfOk (sub_tlvs (places.InUpdate family) octets) (λ given. IfSome given Is)
  sub_tlvs_are octets = items_are (are_all_of octets (tlvs_of 0 octets)) None (tlvs_of 0 octets) tt
