-- What a request asks for, unless it is ignored: RFC 8966, 4.6.10, 4.6.11; RFC 9079, 7.3, 7.4;
-- RFC 9229, 2.3. Its prefixes are whole: none has octets of a default prefix.
use Rattle.std.specs.Prelude.{◌≡◌, ℕ, ◌+◌, ◌*◌, ◌^◌, ◌<◌, Bool, ◌==◌, ◌&&◌, ◌||◌, nat_lt}
use Rattle.std.specs.Prelude.{if◌then◌else◌, List, ◌∷◌, ◌++◌}
use Rattle.std.specs.Prelude.{length, take, drop, slice_index, Option, Some, None, Result, Ok, is_ok}
use Rattle.std.specs.Int.{w16, to_be_bytes}
use Rattle.std.specs.Option.{option_and_then, option_map, unwrap_or}
use Rattle.std.specs.Result.{result_ok}
use Rattle.babel_prefix.specs.declared.family.Family.{Family}
use Rattle.babel_prefix.specs.Width.{width_of}
use Rattle.babel_prefix.specs.Address.{AddressPrefix, whole_family}
use Rattle.babel_tlv.specs.declared.place.Place.TheVariants as places
use Rattle.babel_tlv.specs.declared.prefix_encoding.PrefixEncoding.{PrefixEncoding}
use Rattle.babel_tlv.specs.declared.reason.Reason.{Reason}
use Rattle.babel_tlv.specs.declared.request.Request.{Request}
use Rattle.babel_tlv.specs.declared.request.Request.TheVariants as requests
use Rattle.babel_tlv.specs.Encodings.{encoding_of, number_of, prefix_family}
use Rattle.babel_tlv.specs.Forming.{octets_for, prefix_from}
use Rattle.babel_tlv.specs.Framing.{TlvAt}
use Rattle.babel_tlv.specs.Group.{prefix_octets, source_sub}
use Rattle.babel_tlv.specs.Keys.{IsKey}
use Rattle.babel_tlv.specs.Route.{RouteKey}
use Rattle.babel_tlv.specs.SubTlv.{and_then, sub_tlvs}

-- RFC 9079, 7.2 to 7.4: the source prefix of a TLV of a family that may have one: that of its
-- sub-TLVs, or else of length 0
abbrev pub source_in : Family → List ℕ → Result AddressPrefix Reason
source_in family octets = and_then (sub_tlvs (places.InUpdate family) octets)
    (λ source. Ok (unwrap_or source (whole_family family)))

-- a prefix of this length, which the octets begin with, and the source prefix of the sub-TLVs after
-- it: nothing where the length is above the width, octets are missing, or the sub-TLVs can't be read
abbrev pub key_requested : Family → ℕ → List ℕ → Option RouteKey
key_requested family len octets =
    if nat_lt (width_of family) len || nat_lt (length octets) (octets_for len) then None
    else option_map (λ src. record {
      dst = prefix_from family len (take (octets_for len) octets);
      src = src;
    }) (result_ok (source_in family (drop (octets_for len) octets)))

-- the same of an address encoding that has prefixes; nothing of another
abbrev pub encoded_key : Bool → ℕ → ℕ → List ℕ → Option RouteKey
encoded_key via_v6 ae len octets =
    option_and_then (λ encoding. key_requested (prefix_family encoding) len octets)
    (encoding_of via_v6 ae)

-- RFC 8966, 4.6.10: AE, Plen and the prefix; encoding 0 requests all, with no prefix of its own and
-- no Source Prefix
abbrev pub route_requested : Bool → List ℕ → Option Request
route_requested via_v6 body =
    let ae = slice_index body 0 in
    let len = slice_index body 1 in
    if nat_lt (length body) 2 then None
    else if ae == 0 then (if len == 0 && is_ok (sub_tlvs places.InWildcard (drop 2 body))
    then Some requests.All else None)
    else option_map requests.Route (encoded_key via_v6 ae len (drop 2 body))

-- RFC 8966, 4.6.11: AE, Plen, Seqno, Hop Count, a reserved octet, Router-Id and the prefix
abbrev pub seqno_requested : Bool → List ℕ → Option Request
seqno_requested via_v6 body =
    if nat_lt (length body) 14 then None
    else option_map (λ key. requests.Seqno key (take 8 (drop 6 body))
    (slice_index body 2 * 256 + slice_index body 3))
    (encoded_key via_v6 (slice_index body 0) (slice_index body 1) (drop 14 body))

-- what a TLV requests, where encoding 4 is read or not
abbrev pub requested : Bool → TlvAt → Option Request
requested via_v6 tlv =
    if tlv.kind == 9 then route_requested via_v6 tlv.body
    else if tlv.kind == 10 then seqno_requested via_v6 tlv.body else None

-- ---- laws: a request that is written so is read so

-- the octets of a key: those of the destination, and a Source Prefix where there is one
abbrev pub key_octets : RouteKey → List ℕ
key_octets key = prefix_octets key.dst ++ source_sub key.src

-- the key is written in an encoding of its family, which is read
pub record IsWrittenIn (via_v6 : Bool) (encoding : PrefixEncoding) (key : RouteKey) : Type 0 where
  pub fits : IsKey key
  pub family : prefix_family encoding ≡ key.dst.address.family
  pub read : encoding_of via_v6 (number_of encoding) ≡ Some encoding

abbrev pub RouteIsRequested : Type 0
RouteIsRequested = (via_v6 : Bool) (at : ℕ) (encoding : PrefixEncoding) (key : RouteKey)
    → IsWrittenIn via_v6 encoding key
    → requested via_v6 (record {
      at = at;
      kind = 9;
      body = number_of encoding ∷ key.dst.len ∷ key_octets key;
    }) ≡ Some (requests.Route key)

abbrev pub SeqnoIsRequested : Type 0
SeqnoIsRequested = (via_v6 : Bool) (at hops reserved : ℕ) (encoding : PrefixEncoding)
    (key : RouteKey) (id : List ℕ) (seqno : ℕ)
    → IsWrittenIn via_v6 encoding key → length id ≡ 8 → seqno < 2 ^ 16
    → requested via_v6 (record {
      at = at;
      kind = 10;
      body = number_of encoding ∷ key.dst.len ∷ to_be_bytes w16 seqno ++ hops ∷ reserved ∷ id
          ++ key_octets key;
    }) ≡ Some (requests.Seqno key id seqno)
