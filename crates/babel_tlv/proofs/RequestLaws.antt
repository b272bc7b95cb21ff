-- A request that is written is read back.
use Rattle.std.proofs.Common.{◌≡◌, ℕ, ◌+◌, ◌*◌, ◌^◌, ◌<◌, Bool, false, ltb, List, [], ◌∷◌, length, take, drop, Option, Some, Result, Ok, refl, ap, ◌∙◌, arith}
use Rattle.std.specs.Prelude.{◌==◌, unwrap_or}
use Rattle.std.specs.Int.{byte_at}
use Rattle.std.specs.Option.{option_map}
use Rattle.std.specs.Result.{result_ok}
use Rattle.std.proofs.lemmas.Bool.{le-ltb}
use Rattle.std.proofs.lemmas.List.{take_at, drop_at, length-append}
use Rattle.babel_prefix.specs.declared.family.Family.{Family}
use Rattle.babel_prefix.specs.Width.{width_of}
use Rattle.babel_prefix.specs.Address.{AddressPrefix, whole_family}
use Rattle.babel_prefix.specs.Covers.{IsAddressPrefix}
use Rattle.babel_tlv.specs.declared.prefix_encoding.PrefixEncoding.{PrefixEncoding}
use Rattle.babel_tlv.specs.declared.prefix_encoding.PrefixEncoding.TheVariants.{Ipv4, Ipv6, Ipv4ViaIpv6}
use Rattle.babel_tlv.specs.declared.reason.Reason.{Reason}
use Rattle.babel_tlv.specs.declared.request.Request.{Request}
use Rattle.babel_tlv.specs.declared.request.Request.TheVariants as requests
use Rattle.babel_tlv.specs.Encodings.{number_of}
use Rattle.babel_tlv.specs.Forming.{octets_for, prefix_from}
use Rattle.babel_tlv.specs.Group.{prefix_octets, source_sub}
use Rattle.babel_tlv.specs.Keys.{IsKey}
use Rattle.babel_tlv.specs.Requests.{IsWrittenIn, RouteIsRequested, SeqnoIsRequested, encoded_key, key_octets, key_requested, route_requested, seqno_requested, source_in}
use Rattle.babel_tlv.specs.Route.{RouteKey}
use Rattle.babel_tlv.specs.SubTlv.{and_then}
use Rattle.babel_tlv.proofs.PrefixLaws.{prefix_from-octets}
use Rattle.babel_tlv.proofs.SourceTold.{length-prefix_octets, source_told}

abbrev as_source : Family → Result (Option AddressPrefix) Reason → Result AddressPrefix Reason
as_source family given = and_then given (λ source. Ok (unwrap_or source (whole_family family)))

abbrev as_read : AddressPrefix → Result AddressPrefix Reason
as_read p = Ok p

source_back : (family : Family) (src : AddressPrefix) → IsAddressPrefix src → family ≡ src.address.family → source_in family (source_sub src) ≡ Ok src
source_back family src fits is =
    let told = source_told src fits in
    ap (λ (f : Family). source_in f (source_sub src)) is ∙ ap (as_source src.address.family) told.read ∙ ap as_read told.is

abbrev as_key : AddressPrefix → Result AddressPrefix Reason → Option RouteKey
as_key dst source = option_map (λ (src : AddressPrefix). record { dst = dst; src = src }) (result_ok source)

key_back : (key : RouteKey) → IsKey key → key_requested key.dst.address.family key.dst.len (key_octets key) ≡ Some key
key_back key fits =
    let dst = key.dst in
    let family = dst.address.family in
    let sub = source_sub key.src in
    let sized = length-prefix_octets dst fits.dst in
    let in_width : ltb (width_of family) dst.len ≡ false = le-ltb _ _ fits.dst.len_in_range in
    let enough : ltb (length (key_octets key)) (octets_for dst.len) ≡ false = le-ltb _ _ (omega (arith, sized, length-append (prefix_octets dst) sub)) in
    let taken : take (octets_for dst.len) (key_octets key) ≡ prefix_octets dst = take_at (prefix_octets dst) sub (octets_for dst.len) sized in
    let behind : drop (octets_for dst.len) (key_octets key) ≡ sub = drop_at (prefix_octets dst) sub (octets_for dst.len) sized in
    rw (in_width, enough)
    (ap (λ (octets : List ℕ). as_key (prefix_from family dst.len octets) (source_in family (drop (octets_for dst.len) (key_octets key)))) taken
    ∙ ap (λ (p : AddressPrefix). as_key p (source_in family (drop (octets_for dst.len) (key_octets key)))) (prefix_from-octets dst fits.dst)
    ∙ ap (λ (octets : List ℕ). as_key dst (source_in family octets)) behind
    ∙ ap (as_key dst) (source_back family key.src fits.src fits.one_family))

key_encoded : (via_v6 : Bool) (encoding : PrefixEncoding) (key : RouteKey) → IsWrittenIn via_v6 encoding key
    → encoded_key via_v6 (number_of encoding) key.dst.len (key_octets key) ≡ Some key
key_encoded via_v6 encoding key written =
    rw written.read (ap (λ (f : Family). key_requested f key.dst.len (key_octets key)) written.family ∙ key_back key written.fits)

abbrev as_route : Option RouteKey → Option Request
as_route key = option_map requests.Route key

other_encoding : (encoding : PrefixEncoding) → (number_of encoding == 0) ≡ false
other_encoding Ipv4 = refl
other_encoding Ipv6 = refl
other_encoding Ipv4ViaIpv6 = refl

route_by : (via_v6 : Bool) (ae len : ℕ) (octets : List ℕ) (key : RouteKey) → (ae == 0) ≡ false → encoded_key via_v6 ae len octets ≡ Some key
    → route_requested via_v6 (ae ∷ len ∷ octets) ≡ Some (requests.Route key)
route_by via_v6 ae len octets key other read =
    let long : ltb (length (ae ∷ len ∷ octets)) 2 ≡ false = le-ltb _ _ (omega arith) in
    rw (long, other) (ap as_route read)

pub route_is_requested : RouteIsRequested
route_is_requested via_v6 at encoding key written =
    route_by via_v6 (number_of encoding) key.dst.len (key_octets key) key (other_encoding encoding) (key_encoded via_v6 encoding key written)

abbrev as_seqno : List ℕ → ℕ → Option RouteKey → Option Request
as_seqno id seqno key = option_map (λ (k : RouteKey). requests.Seqno k id seqno) key

two_back : (n : ℕ) → n < 2 ^ 16 → byte_at 1 n * 256 + byte_at 0 n ≡ n
two_back n fits = omega arith

seqno_by : (via_v6 : Bool) (ae len seqno hops reserved a b c d e f g h : ℕ) (octets : List ℕ) (key : RouteKey) → seqno < 2 ^ 16 → encoded_key via_v6 ae len octets ≡ Some key
    → seqno_requested via_v6 (ae ∷ len ∷ byte_at 1 seqno ∷ byte_at 0 seqno ∷ hops ∷ reserved ∷ a ∷ b ∷ c ∷ d ∷ e ∷ f ∷ g ∷ h ∷ octets)
    ≡ Some (requests.Seqno key (a ∷ b ∷ c ∷ d ∷ e ∷ f ∷ g ∷ h ∷ []) seqno)
seqno_by via_v6 ae len seqno hops reserved a b c d e f g h octets key fits read =
    let id = a ∷ b ∷ c ∷ d ∷ e ∷ f ∷ g ∷ h ∷ [] in
    let long : ltb (length (ae ∷ len ∷ byte_at 1 seqno ∷ byte_at 0 seqno ∷ hops ∷ reserved ∷ a ∷ b ∷ c ∷ d ∷ e ∷ f ∷ g ∷ h ∷ octets)) 14 ≡ false = le-ltb _ _ (omega arith) in
    rw long (ap (as_seqno id (byte_at 1 seqno * 256 + byte_at 0 seqno)) read ∙ ap (λ (n : ℕ). as_seqno id n (Some key)) (two_back seqno fits))

pub seqno_is_requested : SeqnoIsRequested
seqno_is_requested via_v6 at hops reserved encoding key [] seqno written eight fits = absurd (omega arith)
seqno_is_requested via_v6 at hops reserved encoding key (a ∷ []) seqno written eight fits = absurd (omega arith)
seqno_is_requested via_v6 at hops reserved encoding key (a ∷ b ∷ []) seqno written eight fits = absurd (omega arith)
seqno_is_requested via_v6 at hops reserved encoding key (a ∷ b ∷ c ∷ []) seqno written eight fits = absurd (omega arith)
seqno_is_requested via_v6 at hops reserved encoding key (a ∷ b ∷ c ∷ d ∷ []) seqno written eight fits = absurd (omega arith)
seqno_is_requested via_v6 at hops reserved encoding key (a ∷ b ∷ c ∷ d ∷ e ∷ []) seqno written eight fits = absurd (omega arith)
seqno_is_requested via_v6 at hops reserved encoding key (a ∷ b ∷ c ∷ d ∷ e ∷ f ∷ []) seqno written eight fits = absurd (omega arith)
seqno_is_requested via_v6 at hops reserved encoding key (a ∷ b ∷ c ∷ d ∷ e ∷ f ∷ g ∷ []) seqno written eight fits = absurd (omega arith)
seqno_is_requested via_v6 at hops reserved encoding key (a ∷ b ∷ c ∷ d ∷ e ∷ f ∷ g ∷ h ∷ []) seqno written eight fits =
    seqno_by via_v6 (number_of encoding) key.dst.len seqno hops reserved a b c d e f g h (key_octets key) key fits (key_encoded via_v6 encoding key written)
seqno_is_requested via_v6 at hops reserved encoding key (a ∷ b ∷ c ∷ d ∷ e ∷ f ∷ g ∷ h ∷ i ∷ id) seqno written eight fits = absurd (omega arith)
