-- What an IHU says, unless it is ignored: RFC 8966, 4.6.6.
use Rattle.std.specs.Prelude.{◌≡◌, ℕ, ◌+◌, ◌*◌, ◌^◌, ◌<◌, Bool, ◌==◌, ◌||◌, not, nat_lt}
use Rattle.std.specs.Prelude.{true, false, if◌then◌else◌, List, [], ◌∷◌, ◌++◌, length, take, drop}
use Rattle.std.specs.Prelude.{slice_index, Option, Some, None, is_ok, ◌⊎◌}
use Rattle.std.specs.Int.{w16, to_be_bytes}
use Rattle.babel_prefix.specs.Address.{Address, IsAddress, address_of, octets_of}
use Rattle.babel_prefix.specs.declared.family.Family.TheVariants.{V4, V6}
use Rattle.babel_tlv.specs.declared.ihu.Ihu.{Ihu}
use Rattle.babel_tlv.specs.declared.ihu.Named.{Named}
use Rattle.babel_tlv.specs.declared.place.Place.TheVariants as places
use Rattle.babel_tlv.specs.Forming.{hop_len, link_local}
use Rattle.babel_tlv.specs.Framing.{TlvAt}
use Rattle.babel_tlv.specs.SubTlv.{sub_tlvs}

-- RFC 8966, 4.1.4: how many octets an address of this encoding has; with encoding 0 there is none
abbrev pub named_len : ℕ → ℕ
named_len ae = if ae == 0 then 0 else hop_len ae

-- an encoding above 3, or too few octets for an address of it
abbrev pub is_unnamed : ℕ → List ℕ → Bool
is_unnamed ae octets = nat_lt 3 ae || nat_lt (length octets) (named_len ae)

-- the address that the octets begin with; none with encoding 0, and then the destination of the
-- packet says whom the IHU is for
abbrev pub address_named : ℕ → List ℕ → Option Address
address_named ae octets =
    let field = take (named_len ae) octets in
    if ae == 0 then None
    else Some (if ae == 1 then address_of V4 field
    else if ae == 2 then address_of V6 field else address_of V6 (link_local ++ field))

-- whom an IHU names, and the octets after the address
abbrev pub IsNamed : ℕ → List ℕ → Named → Type 0
IsNamed ae octets named = (is_unnamed ae octets ≡ false)
    × (named.address ≡ address_named ae octets)
    × (named.sub_tlvs.now ≡ drop (named_len ae) octets)

-- an IHU of these fields; nothing where the address, or the sub-TLVs after it, can't be read
abbrev pub ihu_with : ℕ → ℕ → ℕ → List ℕ → Option Ihu
ihu_with ae rxcost interval octets =
    if is_unnamed ae octets
    || not (is_ok (sub_tlvs places.Elsewhere (drop (named_len ae) octets))) then None
    else Some (record {
      address = address_named ae octets;
      rxcost = rxcost;
      interval = interval;
    })

-- RFC 8966, 4.6.6: AE, a reserved octet, Rxcost, Interval and the address
abbrev pub ihu_in : List ℕ → Option Ihu
ihu_in body =
    if nat_lt (length body) 6 then None
    else ihu_with (slice_index body 0) (slice_index body 2 * 256 + slice_index body 3)
    (slice_index body 4 * 256 + slice_index body 5) (drop 6 body)

-- what a TLV says as an IHU
abbrev pub ihu_of : TlvAt → Option Ihu
ihu_of tlv = if tlv.kind == 5 then ihu_in tlv.body else None

-- ---- a law: an IHU that is written so is read so

-- RFC 8966, 4.1.4: these octets are an address in this encoding, or none
abbrev pub IsWrittenIn : ℕ → Option Address → List ℕ → Type 0
IsWrittenIn ae None field = (ae ≡ 0) × (field ≡ [])
IsWrittenIn ae (Some a) field = IsAddress a
    × (((ae ≡ 1) × (a.family ≡ V4) × (field ≡ octets_of a))
    ⊎ ((ae ≡ 2) × (a.family ≡ V6) × (field ≡ octets_of a))
    ⊎ ((ae ≡ 3) × (a.family ≡ V6) × (link_local ++ field ≡ octets_of a)))

abbrev pub IhuIsRead : Type 0
IhuIsRead = (at ae reserved : ℕ) (ihu : Ihu) (field octets : List ℕ)
    → IsWrittenIn ae ihu.address field
    → ihu.rxcost < 2 ^ 16 → ihu.interval < 2 ^ 16
    → is_ok (sub_tlvs places.Elsewhere octets) ≡ true
    → ihu_of (record {
      at = at;
      kind = 5;
      body = ae ∷ reserved ∷ to_be_bytes w16 ihu.rxcost ++ to_be_bytes w16 ihu.interval
          ++ field ++ octets;
    }) ≡ Some ihu
