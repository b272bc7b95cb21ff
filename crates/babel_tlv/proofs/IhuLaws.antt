-- An IHU that is written is read back.
use Rattle.std.proofs.Common.{◌≡◌, ℕ, ◌+◌, ◌*◌, ◌^◌, ◌<◌, ◌≤◌, true, false, ltb, inl, inr, List, [], ◌∷◌, ◌++◌, length, take, drop, Option, Some, None, refl, sym, ap, subst, ◌∙◌, arith}
use Rattle.std.specs.Prelude.{is_ok}
use Rattle.std.specs.Int.{byte_at}
use Rattle.std.proofs.Math.Nat.{mod-eq_of_lt}
use Rattle.std.proofs.lemmas.Bool.{le-ltb}
use Rattle.std.proofs.lemmas.List.{take_at, drop_at, length-append}
use Rattle.babel_prefix.specs.declared.family.Family.{Family}
use Rattle.babel_prefix.specs.declared.family.Family.TheVariants.{V4, V6}
use Rattle.babel_prefix.specs.Width.{octet_count}
use Rattle.babel_prefix.specs.Address.{Address, IsAddress, address_of, octets_of}
use Rattle.babel_prefix.proofs.OctetLaws.{number-octets}
use Rattle.babel_tlv.specs.declared.ihu.Ihu.{Ihu}
use Rattle.babel_tlv.specs.declared.place.Place.TheVariants as places
use Rattle.babel_tlv.specs.Forming.{link_local}
use Rattle.babel_tlv.specs.Ihus.{IhuIsRead, IsWrittenIn, address_named, ihu_in, ihu_with, is_unnamed, named_len}
use Rattle.babel_tlv.specs.SubTlv.{sub_tlvs}
use Rattle.babel_tlv.proofs.FormLaws.{width-octets}
use Rattle.babel_tlv.proofs.PrefixLaws.{length-octets}

address_back : (a : Address) → IsAddress a → address_of a.family (octets_of a) ≡ a
address_back a fits =
    ap (λ (n : ℕ). let b : Address = record { family = a.family; bits = n } in b)
    (number-octets (octet_count a.family) a.bits ∙ mod-eq_of_lt (subst (λ (m : ℕ). a.bits < m) (width-octets a.family) fits))

-- what is read of octets that begin with an address
record IsBack (ae : ℕ) (address : Option Address) (rest octets : List ℕ) : Type 0 where
  known : is_unnamed ae rest ≡ false
  named : address_named ae rest ≡ address
  behind : drop (named_len ae) rest ≡ octets

in_field : (ae : ℕ) (address : Option Address) (field octets : List ℕ) → ae ≤ 3 → length field ≡ named_len ae
    → (take (named_len ae) (field ++ octets) ≡ field → address_named ae (field ++ octets) ≡ address) → IsBack ae address (field ++ octets) octets
in_field ae address field octets few sized named =
    let known : ltb 3 ae ≡ false = le-ltb _ _ few in
    let long : ltb (length (field ++ octets)) (named_len ae) ≡ false = le-ltb _ _ (omega (arith, sized, length-append field octets)) in
    record {
      known = rw (known, long) refl;
      named = named (take_at field octets (named_len ae) sized);
      behind = drop_at field octets (named_len ae) sized;
    }

field_len : (a : Address) (family : Family) → a.family ≡ family → length (octets_of a) ≡ octet_count family
field_len a family is = length-octets (octet_count a.family) a.bits ∙ ap octet_count is

-- an address of a family, whose octets these are
of_family : (a : Address) (family : Family) (octets : List ℕ) → IsAddress a → a.family ≡ family → octets ≡ octets_of a → (let b : Option Address = Some (address_of family octets) in b) ≡ Some a
of_family a family octets fits is are =
    ap (λ (xs : List ℕ). let b : Option Address = Some (address_of family xs) in b) are
    ∙ ap (λ (f : Family). let b : Option Address = Some (address_of f (octets_of a)) in b) (sym is)
    ∙ ap (λ (b : Address). let c : Option Address = Some b in c) (address_back a fits)

back_1 : (a : Address) (field octets : List ℕ) → IsAddress a → a.family ≡ V4 → field ≡ octets_of a → IsBack 1 (Some a) (field ++ octets) octets
back_1 a field octets fits is are =
    in_field 1 (Some a) field octets (omega arith) (ap length are ∙ field_len a V4 is) (λ taken. of_family a V4 _ fits is (taken ∙ are))

back_2 : (a : Address) (field octets : List ℕ) → IsAddress a → a.family ≡ V6 → field ≡ octets_of a → IsBack 2 (Some a) (field ++ octets) octets
back_2 a field octets fits is are =
    in_field 2 (Some a) field octets (omega arith) (ap length are ∙ field_len a V6 is) (λ taken. of_family a V6 _ fits is (taken ∙ are))

back_3 : (a : Address) (field octets : List ℕ) → IsAddress a → a.family ≡ V6 → link_local ++ field ≡ octets_of a → IsBack 3 (Some a) (field ++ octets) octets
back_3 a field octets fits is are =
    let whole : length (link_local ++ field) ≡ 16 = ap length are ∙ field_len a V6 is in
    in_field 3 (Some a) field octets (omega arith) (omega (arith, whole, length-append link_local field))
    (λ taken. of_family a V6 _ fits is (ap (λ (xs : List ℕ). link_local ++ xs) taken ∙ are))

field_back : (ae : ℕ) (address : Option Address) (field octets : List ℕ) → IsWrittenIn ae address field → IsBack ae address (field ++ octets) octets
field_back ae None field octets written =
    subst (λ (n : ℕ). IsBack n None (field ++ octets) octets) (sym written.0)
    (in_field 0 None field octets (omega arith) (ap length written.1) (λ taken. refl))
field_back ae (Some a) field octets written =
    elim written.1 [
      | inl w ↦ subst (λ (n : ℕ). IsBack n (Some a) (field ++ octets) octets) (sym w.0) (back_1 a field octets written.0 w.1 w.2)
      | inr v ↦ elim v [
        | inl w ↦ subst (λ (n : ℕ). IsBack n (Some a) (field ++ octets) octets) (sym w.0) (back_2 a field octets written.0 w.1 w.2)
        | inr w ↦ subst (λ (n : ℕ). IsBack n (Some a) (field ++ octets) octets) (sym w.0) (back_3 a field octets written.0 w.1 w.2)
      ]
    ]

abbrev as_ihu : Option Address → ℕ → ℕ → Option Ihu
as_ihu address rxcost interval = Some (record { address = address; rxcost = rxcost; interval = interval })

with_back : (ae rxcost interval : ℕ) (address : Option Address) (rest octets : List ℕ) → IsBack ae address rest octets → is_ok (sub_tlvs places.Elsewhere octets) ≡ true
    → ihu_with ae rxcost interval rest ≡ as_ihu address rxcost interval
with_back ae rxcost interval address rest octets back fine =
    let known = back.known in
    let sub : is_ok (sub_tlvs places.Elsewhere (drop (named_len ae) rest)) ≡ true = ap (λ (xs : List ℕ). is_ok (sub_tlvs places.Elsewhere xs)) back.behind ∙ fine in
    rw (known, sub) (ap (λ (a : Option Address). as_ihu a rxcost interval) back.named)

in_back : (ae reserved r0 r1 i0 i1 : ℕ) (rest : List ℕ) → ihu_in (ae ∷ reserved ∷ r0 ∷ r1 ∷ i0 ∷ i1 ∷ rest) ≡ ihu_with ae (r0 * 256 + r1) (i0 * 256 + i1) rest
in_back ae reserved r0 r1 i0 i1 rest =
    let long : ltb (length (ae ∷ reserved ∷ r0 ∷ r1 ∷ i0 ∷ i1 ∷ rest)) 6 ≡ false = le-ltb _ _ (omega arith) in
    rw long refl

two_back : (n : ℕ) → n < 2 ^ 16 → byte_at 1 n * 256 + byte_at 0 n ≡ n
two_back n fits = omega arith

pub ihu_is_read : IhuIsRead
ihu_is_read at ae reserved ihu field octets written rxcost_fits interval_fits fine =
    let x = ihu.rxcost in
    let i = ihu.interval in
    in_back ae reserved (byte_at 1 x) (byte_at 0 x) (byte_at 1 i) (byte_at 0 i) (field ++ octets)
    ∙ with_back ae (byte_at 1 x * 256 + byte_at 0 x) (byte_at 1 i * 256 + byte_at 0 i) ihu.address (field ++ octets) octets (field_back ae ihu.address field octets written) fine
    ∙ ap (λ (n : ℕ). as_ihu ihu.address n (byte_at 1 i * 256 + byte_at 0 i)) (two_back x rxcost_fits)
    ∙ ap (λ (n : ℕ). as_ihu ihu.address x n) (two_back i interval_fits)
