-- The prefix of an Update that is written is formed again from the default prefix and the octets of the field.
use Rattle.std.proofs.Common.{◌≡◌, ℕ, zero, suc, ◌+◌, ◌-◌, ◌≤◌, Bool, true, false, cond, ltb, List, [], ◌∷◌, ◌++◌, length, take}
use Rattle.std.proofs.Common.{drop, Option, Some, None, Result, Ok, refl, sym, ap, ◌∙◌, arith, length-drop}
use Rattle.std.specs.Prelude.{◌==◌, ◌&&◌, is_none}
use Rattle.std.specs.List.{common_prefix_len}
use Rattle.std.specs.Int.{byte_at}
use Rattle.std.proofs.lemmas.Bool.{le-ltb}
use Rattle.std.proofs.lemmas.Bool.Decides.{nat_tests}
use Rattle.std.proofs.lemmas.List.{take_at, drop_at, drop-drop, take-take, take-append-drop, length-append}
use Rattle.babel_prefix.specs.Width.{width_of, octet_count}
use Rattle.babel_prefix.specs.Address.{Address, AddressPrefix, octets_of}
use Rattle.babel_prefix.specs.Covers.{IsAddressPrefix}
use Rattle.babel_tlv.specs.declared.reason.Reason.{Reason}
use Rattle.babel_tlv.specs.Forming.{octets_for, formed, prefix_from}
use Rattle.babel_tlv.specs.Reading.{default_octets}
use Rattle.babel_tlv.specs.Group.{prefix_octets, shared_octets}
use Rattle.babel_tlv.proofs.PrefixLaws.{prefix_from-octets}
use Rattle.babel_tlv.proofs.SourceTold.{octets_for-le, length-prefix_octets}

-- what one side knows, the other knows too
abbrev pub IsKnown : {A : Type 0} → Option A → Option A → Type 0
IsKnown None other = Unit {0}
IsKnown (Some a) other = other ≡ Some a

-- so many octets of the default prefix stand for the first ones of this prefix
pub record Omits (default : Option Address) (dst : AddressPrefix) (omit : ℕ) : Type 0 where
  pub few : omit ≤ octets_for dst.len
  pub defined : (ltb 0 omit && is_none default) ≡ false
  pub same : take omit (default_octets default) ≡ take omit (prefix_octets dst)

common_step : (n x y : ℕ) (xs ys : List ℕ) (b : Bool) → (x == y) ≡ b → suc n ≤ cond b (1 + common_prefix_len ◌==◌ xs ys) 0
    → (n ≤ common_prefix_len ◌==◌ xs ys → take n xs ≡ take n ys) → take (suc n) (x ∷ xs) ≡ take (suc n) (y ∷ ys)
common_step n x y xs ys true e h later =
    let heads : x ≡ y = grind (arith, nat_tests) in
    ap (λ (z : ℕ). z ∷ take n xs) heads ∙ ap (λ (zs : List ℕ). y ∷ zs) (later (omega arith))
common_step n x y xs ys false e h later = absurd (omega arith)

take-common : (n : ℕ) (xs ys : List ℕ) → n ≤ common_prefix_len ◌==◌ xs ys → take n xs ≡ take n ys
take-common zero xs ys h = refl
take-common (suc n) [] ys h = absurd (omega arith)
take-common (suc n) (x ∷ xs) [] h = absurd (omega arith)
take-common (suc n) (x ∷ xs) (y ∷ ys) h = common_step n x y xs ys (x == y) refl h (take-common n xs ys)

pub omits : (last default : Option Address) (dst : AddressPrefix) → IsKnown last default → Omits default dst (shared_octets last dst)
omits None default dst known = record { few = omega arith; defined = refl; same = refl }
omits (Some last) default dst known =
    let n = shared_octets (Some last) dst in
    let few : n ≤ octets_for dst.len = omega arith in
    let within : n ≤ common_prefix_len ◌==◌ (octets_of last) (octets_of dst.address) = omega arith in
    record {
      few = few;
      defined = rw known (and_false (ltb 0 n));
      same = ap (λ (d : Option Address). take n (default_octets d)) known
          ∙ take-common n (octets_of last) (octets_of dst.address) within
          ∙ sym (take-take n (octets_for dst.len) (octets_of dst.address) few);
    }
  where
    and_false : (b : Bool) → (b && false) ≡ false
    and_false true = refl
    and_false false = refl

-- an Update's body with the Prefix flag and Interval 1600
abbrev pub update_octets : ℕ → ℕ → ℕ → ℕ → ℕ → List ℕ → List ℕ → List ℕ
update_octets ae len omit seqno metric field sub =
    ae ∷ 128 ∷ len ∷ omit ∷ 6 ∷ 64 ∷ byte_at 1 seqno ∷ byte_at 0 seqno ∷ byte_at 1 metric ∷ byte_at 0 metric ∷ (field ++ sub)

pub length-field : (dst : AddressPrefix) (omit : ℕ) → IsAddressPrefix dst → length (drop omit (prefix_octets dst)) ≡ octets_for dst.len - omit
length-field dst omit fits = length-drop omit (prefix_octets dst) ∙ ap (λ (n : ℕ). n - omit) (length-prefix_octets dst fits)

abbrev as_formed : AddressPrefix → Result AddressPrefix Reason
as_formed p = Ok p

pub formed_told : (default : Option Address) (dst : AddressPrefix) (ae omit seqno metric : ℕ) (sub : List ℕ) → IsAddressPrefix dst → Omits default dst omit
    → formed dst.address.family default (update_octets ae dst.len omit seqno metric (drop omit (prefix_octets dst)) sub) ≡ Ok dst
formed_told default dst ae omit seqno metric sub fits omits =
    let field = drop omit (prefix_octets dst) in
    let sized = length-field dst omit fits in
    let in_width : ltb (width_of dst.address.family) dst.len ≡ false = le-ltb _ _ fits.len_in_range in
    let in_octets : ltb (octet_count dst.address.family) omit ≡ false = le-ltb _ _ (omega (arith, octets_for-le dst fits, omits.few)) in
    let enough : ltb (length (update_octets ae dst.len omit seqno metric field sub)) (10 + (octets_for dst.len - omit)) ≡ false =
    le-ltb _ _ (omega (arith, sized, length-append field sub)) in
    let taken : take (octets_for dst.len - omit) (field ++ sub) ≡ field = take_at field sub (octets_for dst.len - omit) sized in
    let joined : take omit (default_octets default) ++ take (octets_for dst.len - omit) (field ++ sub) ≡ prefix_octets dst =
    ap (λ (front : List ℕ). front ++ take (octets_for dst.len - omit) (field ++ sub)) omits.same
    ∙ ap (λ (back : List ℕ). take omit (prefix_octets dst) ++ back) taken
    ∙ take-append-drop omit (prefix_octets dst) in
    rw (in_width, in_octets, omits.defined, enough) (ap (λ (octets : List ℕ). as_formed (prefix_from dst.address.family dst.len octets)) joined ∙ ap as_formed (prefix_from-octets dst fits))

-- what stands behind the field
pub behind_field : (dst : AddressPrefix) (ae omit seqno metric : ℕ) (sub : List ℕ) → IsAddressPrefix dst
    → drop (10 + (octets_for dst.len - omit)) (update_octets ae dst.len omit seqno metric (drop omit (prefix_octets dst)) sub) ≡ sub
behind_field dst ae omit seqno metric sub fits =
    let field = drop omit (prefix_octets dst) in
    sym (drop-drop (octets_for dst.len - omit) 10 (update_octets ae dst.len omit seqno metric field sub))
    ∙ drop_at field sub (octets_for dst.len - omit) (length-field dst omit fits)
