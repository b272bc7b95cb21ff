-- A Next Hop that is written is read as one.
use Rattle.std.proofs.Common.{◌≡◌, ℕ, ◌^◌, ◌<◌, Bool, true, false, cond, List, [], ◌∷◌, ◌++◌, take, drop, refl, ap, ◌∙◌, arith}
use Rattle.std.specs.Prelude.{◌==◌}
use Rattle.std.specs.List.{starts_with}
use Rattle.std.specs.Int.{bytes_high_first}
use Rattle.std.specs.Int.Digits.{number_from_digits}
use Rattle.std.proofs.Math.Nat.{mod-eq_of_lt}
use Rattle.std.proofs.lemmas.List.{take-append-drop}
use Rattle.std.proofs.lemmas.Slice.Eq.{bytes_eq-Decides}
use Rattle.babel_prefix.specs.declared.family.Family.{Family}
use Rattle.babel_prefix.specs.declared.family.Family.TheVariants.{V4, V6}
use Rattle.babel_prefix.specs.Width.{width_of, octet_count}
use Rattle.babel_prefix.specs.Address.{Address, IsAddress}
use Rattle.babel_prefix.proofs.OctetLaws.{number-octets}
use Rattle.babel_tlv.specs.declared.event.Event.TheVariants as events
use Rattle.babel_tlv.specs.Forming.{link_local}
use Rattle.babel_tlv.specs.Context.{Context}
use Rattle.babel_tlv.specs.Group.{next_hop_tlv, next_hop_octets}
use Rattle.babel_tlv.specs.Kept.{kept_with}
use Rattle.babel_tlv.proofs.Telling.{Tells, Tells-one}

abbrev pub with_hop : Family → Context → Address → Context
with_hop family context hop = record context { next_hops = kept_with family hop context.next_hops }

abbrev hop_of : Family → ℕ → Address
hop_of family bits = record { family = family; bits = bits }

-- the octets of an address have its number
pub number-of_octets : (family : Family) (bits : ℕ) → bits < 2 ^ width_of family → number_from_digits 256 (bytes_high_first (octet_count family) bits) ≡ bits
number-of_octets V4 bits fits = number-octets 4 bits ∙ mod-eq_of_lt fits
number-of_octets V6 bits fits = number-octets 16 bits ∙ mod-eq_of_lt fits

four_told : (context : Context) (at bits : ℕ) → bits < 2 ^ 32 → Tells context at (next_hop_octets V4 (bytes_high_first 4 bits)) [] (with_hop V4 context (hop_of V4 bits))
four_told context at bits fits =
    Tells-one context at 7 (1 ∷ 0 ∷ bytes_high_first 4 bits) events.Nothing (with_hop V4 context (hop_of V4 bits))
    (record { kind_fits = omega arith; len_fits = omega arith; pad1 = λ e. absurd cc }) refl
    (ap (λ (n : ℕ). with_hop V4 context (hop_of V4 n)) (number-of_octets V4 bits fits))

starts-parts : (octets : List ℕ) → starts_with ◌==◌ octets link_local ≡ true → link_local ++ drop 8 octets ≡ octets
starts-parts octets starts =
    ap (λ (front : List ℕ). front ++ drop 8 octets) ((bytes_eq-Decides link_local (take 8 octets)).0 starts) ∙ take-append-drop 8 octets

sixteen_told : (context : Context) (at bits : ℕ) → bits < 2 ^ 128 → (b : Bool) → starts_with ◌==◌ (bytes_high_first 16 bits) link_local ≡ b
    → Tells context at (cond b (7 ∷ 10 ∷ 3 ∷ 0 ∷ drop 8 (bytes_high_first 16 bits)) (7 ∷ 18 ∷ 2 ∷ 0 ∷ bytes_high_first 16 bits)) [] (with_hop V6 context (hop_of V6 bits))
sixteen_told context at bits fits true starts =
    Tells-one context at 7 (3 ∷ 0 ∷ drop 8 (bytes_high_first 16 bits)) events.Nothing (with_hop V6 context (hop_of V6 bits))
    (record { kind_fits = omega arith; len_fits = omega arith; pad1 = λ e. absurd cc }) refl
    (ap (λ (octets : List ℕ). with_hop V6 context (hop_of V6 (number_from_digits 256 octets))) (starts-parts (bytes_high_first 16 bits) starts)
    ∙ ap (λ (n : ℕ). with_hop V6 context (hop_of V6 n)) (number-of_octets V6 bits fits))
sixteen_told context at bits fits false starts =
    Tells-one context at 7 (2 ∷ 0 ∷ bytes_high_first 16 bits) events.Nothing (with_hop V6 context (hop_of V6 bits))
    (record { kind_fits = omega arith; len_fits = omega arith; pad1 = λ e. absurd cc }) refl
    (ap (λ (n : ℕ). with_hop V6 context (hop_of V6 n)) (number-of_octets V6 bits fits))

family_told : (context : Context) (at : ℕ) (family : Family) (bits : ℕ) → bits < 2 ^ width_of family
    → Tells context at (next_hop_octets family (bytes_high_first (octet_count family) bits)) [] (with_hop family context (hop_of family bits))
family_told context at V4 bits fits = four_told context at bits fits
family_told context at V6 bits fits = sixteen_told context at bits fits (starts_with ◌==◌ (bytes_high_first 16 bits) link_local) refl

pub hop_told : (context : Context) (at : ℕ) (hop : Address) → IsAddress hop → Tells context at (next_hop_tlv hop) [] (with_hop hop.family context hop)
hop_told context at hop fits = family_told context at hop.family hop.bits fits
