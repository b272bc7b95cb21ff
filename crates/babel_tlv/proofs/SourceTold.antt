-- A source prefix that is written is read back.
use Rattle.std.proofs.Common.{◌≡◌, ℕ, suc, ◌+◌, ◌-◌, ◌%◌, ◌^◌, ◌<◌, ◌≤◌, Bool, true, false, cond, ltb, eqb, List, [], ◌∷◌, length, Option, Some, None, refl, sym, ap, subst, ◌∙◌, arith}
use Rattle.std.specs.Prelude.{◌==◌, unwrap_or, Ok}
use Rattle.std.specs.Int.{bytes_high_first}
use Rattle.std.proofs.Math.Nat.{mod-eq_of_lt}
use Rattle.std.proofs.lemmas.Bool.{le-ltb}
use Rattle.std.proofs.lemmas.Bool.Decides.{nat_tests}
use Rattle.std.proofs.lemmas.List.{length-take-le, take_all, append-nil}
use Rattle.babel_prefix.specs.declared.family.Family.{Family}
use Rattle.babel_prefix.specs.declared.family.Family.TheVariants.{V4, V6}
use Rattle.babel_prefix.specs.Width.{width_of, octet_count}
use Rattle.babel_prefix.specs.Address.{AddressPrefix, whole_family}
use Rattle.babel_prefix.specs.Covers.{IsAddressPrefix}
use Rattle.babel_tlv.specs.declared.place.Place.TheVariants as places
use Rattle.babel_tlv.specs.Left.{BeginsTlv}
use Rattle.babel_tlv.specs.Forming.{octets_for, prefix_from}
use Rattle.babel_tlv.specs.SubTlv.{is_bad_source, item_read, sub_tlvs}
use Rattle.babel_tlv.specs.Reading.{source_prefix}
use Rattle.babel_tlv.specs.Group.{prefix_octets, source_sub}
use Rattle.babel_tlv.proofs.Reading.{one}
use Rattle.babel_tlv.proofs.SubTlvLaws.{rest_read-begins}
use Rattle.babel_tlv.proofs.PrefixLaws.{length-octets, prefix_from-octets}

few_octets : (family : Family) (len : ℕ) → len ≤ width_of family → octets_for len ≤ octet_count family
few_octets V4 len fits = omega arith
few_octets V6 len fits = omega arith

pub octets_for-le : (p : AddressPrefix) → IsAddressPrefix p → octets_for p.len ≤ octet_count p.address.family
octets_for-le p fits = few_octets p.address.family p.len fits.len_in_range

-- a prefix has as many octets as its bits need
pub length-prefix_octets : (p : AddressPrefix) → IsAddressPrefix p → length (prefix_octets p) ≡ octets_for p.len
length-prefix_octets p fits =
    let all = length-octets (octet_count p.address.family) p.address.bits in
    length-take-le (octets_for p.len) (bytes_high_first (octet_count p.address.family) p.address.bits) (omega (arith, all, octets_for-le p fits))

pub octets_for-small : (p : AddressPrefix) → IsAddressPrefix p → octets_for p.len ≤ 16
octets_for-small p fits = small p.address.family p.len fits.len_in_range
  where
    small : (family : Family) (len : ℕ) → len ≤ width_of family → octets_for len ≤ 16
    small V4 len fits = omega arith
    small V6 len fits = omega arith

-- ---- length 0

abbrev prefix_of : Family → ℕ → ℕ → AddressPrefix
prefix_of family bits len = record { address = record { family = family; bits = bits }; len = len }

whole_is : (family : Family) (bits len : ℕ) → len ≡ 0 → bits < 2 ^ width_of family → bits % 2 ^ (width_of family - len) ≡ 0
    → whole_family family ≡ record { address = record { family = family; bits = bits }; len = len }
whole_is family bits len none fits rest =
    let whole : bits % 2 ^ (width_of family) ≡ 0 = subst (λ (n : ℕ). bits % 2 ^ n ≡ 0) (let e : width_of family - len ≡ width_of family = omega arith in e) rest in
    let zero_bits : 0 ≡ bits = sym whole ∙ mod-eq_of_lt fits in
    ap (λ (n : ℕ). prefix_of family n 0) zero_bits ∙ ap (λ (n : ℕ). prefix_of family bits n) (sym none)

-- ---- a length above 0

abbrev item_body : AddressPrefix → List ℕ
item_body src = src.len ∷ prefix_octets src

abbrev item_octets : AddressPrefix → List ℕ
item_octets src = 128 ∷ (1 + octets_for src.len) ∷ src.len ∷ prefix_octets src

item_begins : (src : AddressPrefix) → IsAddressPrefix src → BeginsTlv (item_octets src) 128 (item_body src) []
item_begins src fits =
    let sized = length-prefix_octets src fits in
    record {
      whole = ap (λ (n : ℕ). 128 ∷ n ∷ item_body src) (let e : 1 + octets_for src.len ≡ suc (length (prefix_octets src)) = omega (arith, sized) in e)
          ∙ sym (append-nil (128 ∷ suc (length (prefix_octets src)) ∷ item_body src));
      kind_fits = omega arith;
      len_fits = omega (arith, sized, octets_for-small src fits);
      pad1 = λ e. absurd cc;
    }

good_source : (src : AddressPrefix) → IsAddressPrefix src → (src.len == 0) ≡ false → is_bad_source src.address.family (item_body src) ≡ false
good_source src fits some =
    let sized = length-prefix_octets src fits in
    let has_body : eqb (suc (length (prefix_octets src))) 0 ≡ false = grind (arith, nat_tests) in
    let in_width : ltb (width_of src.address.family) src.len ≡ false = le-ltb _ _ fits.len_in_range in
    let enough : ltb (suc (length (prefix_octets src))) (1 + octets_for src.len) ≡ false = le-ltb _ _ (omega (arith, sized)) in
    rw (has_body, some, in_width, enough) refl

-- what is written of a source prefix is read back
pub record ReadsSource (src : AddressPrefix) (octets : List ℕ) : Type 0 where
  pub given : Option AddressPrefix
  pub read : sub_tlvs (places.InUpdate src.address.family) octets ≡ Ok given
  pub is : unwrap_or given (whole_family src.address.family) ≡ src

item_told : (src : AddressPrefix) → IsAddressPrefix src → (src.len == 0) ≡ false → ReadsSource src (item_octets src)
item_told src fits some =
    let family = src.address.family in
    let reads : item_read (places.InUpdate family) None (one 0 128 (item_body src)) ≡ Ok (Some (source_prefix family (item_body src))) = rw (good_source src fits some) refl in
    record {
      given = Some (source_prefix family (item_body src));
      read = rest_read-begins (places.InUpdate family) None 0 (item_octets src) 128 (item_body src) [] (Ok (Some (source_prefix family (item_body src)))) (item_begins src fits) reads;
      is = ap (λ (octets : List ℕ). prefix_from family src.len octets) (take_all (octets_for src.len) (prefix_octets src) (omega (arith, length-prefix_octets src fits)))
          ∙ prefix_from-octets src fits;
    }

source_by : (src : AddressPrefix) → IsAddressPrefix src → (b : Bool) → (src.len == 0) ≡ b → ReadsSource src (cond b [] (item_octets src))
source_by src fits true none =
    let len_is : src.len ≡ 0 = grind (arith, nat_tests) in
    record { given = None; read = refl; is = whole_is src.address.family src.address.bits src.len len_is fits.start_in_range fits.rest_is_zero }
source_by src fits false some = item_told src fits some

pub source_told : (src : AddressPrefix) → IsAddressPrefix src → ReadsSource src (source_sub src)
source_told src fits = source_by src fits (src.len == 0) refl

by_test : (src : AddressPrefix) → IsAddressPrefix src → (b : Bool) → length (cond b [] (item_octets src)) ≤ 19
by_test src fits true = omega arith
by_test src fits false = omega (arith, length-prefix_octets src fits, octets_for-small src fits)

pub length-source_sub : (src : AddressPrefix) → IsAddressPrefix src → length (source_sub src) ≤ 19
length-source_sub src fits = by_test src fits (src.len == 0)
