-- An Update that is written is read as what it announces.
use Rattle.std.proofs.Common.{◌≡◌, ℕ, ◌+◌, ◌*◌, ◌/◌, ◌%◌, ◌<◌, ◌≤◌, ◌^◌, false, eqb, List, [], ◌∷◌, length, drop, Option, Some, Result, Ok, refl, ap, subst, ◌∙◌, arith}
use Rattle.std.specs.Prelude.{◌≢◌, IsFalse, unwrap_or, true}
use Rattle.std.proofs.lemmas.Bool.{ne_eqb}
use Rattle.std.proofs.lemmas.List.{length-append}
use Rattle.babel_prefix.specs.declared.family.Family.{Family}
use Rattle.babel_prefix.specs.Address.{Address, AddressPrefix, whole_family}
use Rattle.babel_prefix.specs.Covers.{IsAddressPrefix}
use Rattle.babel_tlv.specs.declared.event.Event.{Event}
use Rattle.babel_tlv.specs.declared.event.Event.TheVariants as events
use Rattle.babel_tlv.specs.declared.fault.Fault.{Fault}
use Rattle.babel_tlv.specs.declared.place.Place.TheVariants as places
use Rattle.babel_tlv.specs.declared.prefix_encoding.PrefixEncoding.{PrefixEncoding}
use Rattle.babel_tlv.specs.declared.reason.Reason.{Reason}
use Rattle.babel_tlv.specs.Context.{Context}
use Rattle.babel_tlv.specs.Reading.{formed_by}
use Rattle.babel_tlv.specs.Encodings.{encoding_of, hop_family, number_of, prefix_family}
use Rattle.babel_tlv.specs.Forming.{formed, update_seqno, update_metric}
use Rattle.babel_tlv.specs.Framing.{laid_out}
use Rattle.babel_tlv.specs.Group.{prefix_octets, source_sub}
use Rattle.babel_tlv.specs.Kept.{kept_for, prefix_for, prefix_with}
use Rattle.babel_tlv.specs.News.{spoken}
use Rattle.babel_tlv.specs.Route.{RouteKey, Announcement, is_reserved}
use Rattle.babel_tlv.specs.Says.{key_of, key_reason, key_tells, source_of, unless_ignored}
use Rattle.babel_tlv.specs.SubTlv.{and_then, sub_tlvs}
use Rattle.babel_tlv.proofs.Advance.{said-read, updated-flags}
use Rattle.babel_tlv.proofs.EncodingLaws.{encoding_of-read, is_read}
use Rattle.babel_tlv.proofs.FormedTold.{Omits, update_octets, formed_told, behind_field, length-field}
use Rattle.babel_tlv.proofs.Reading.{one}
use Rattle.babel_tlv.proofs.SourceTold.{ReadsSource, source_told, length-source_sub, octets_for-small}
use Rattle.babel_tlv.proofs.Telling.{Tells, Tells-one}

abbrev pub with_default : PrefixEncoding → Context → Address → Context
with_default encoding context dst = record context { defaults = prefix_with encoding dst context.defaults }

-- two octets of a number give it back
two_back : (n : ℕ) → n < 2 ^ 16 → n / 256 % 256 * 256 + n % 256 ≡ n
two_back n fits = omega arith

-- ---- what it says

abbrev key : AddressPrefix → AddressPrefix → RouteKey
key dst src = record { dst = dst; src = src }

-- what an Update of a key says
abbrev pub key_event : PrefixEncoding → Context → List ℕ → RouteKey → Event
key_event encoding context body key = unless_ignored (key_reason context encoding body (Ok key)) (key_tells context encoding body (Ok key))

abbrev announced : RouteKey → Announcement → ℕ → ℕ → Event
announced key ann seqno metric = events.Announce key (record { router_id = ann.router_id; seqno = seqno; metric = metric; next_hop = ann.next_hop })

-- a metric that is finite announces, by the current router-id and next hop
pub route_told : (encoding : PrefixEncoding) (context : Context) (key : RouteKey) (ae len omit : ℕ) (field sub : List ℕ) (ann : Announcement)
    → ann.seqno < 2 ^ 16 → ann.metric < 2 ^ 16 → ann.metric ≢ 65535 → IsFalse (is_reserved ann.router_id)
    → context.router_id ≡ Some ann.router_id → kept_for (hop_family encoding) context.next_hops ≡ Some ann.next_hop
    → key_event encoding context (update_octets ae len omit ann.seqno ann.metric field sub) key ≡ events.Announce key ann
route_told encoding context key ae len omit field sub ann seqno_fits metric_fits finite unreserved has_id has_hop =
    let seqno : update_seqno (update_octets ae len omit ann.seqno ann.metric field sub) ≡ ann.seqno = two_back ann.seqno seqno_fits in
    let metric : update_metric (update_octets ae len omit ann.seqno ann.metric field sub) ≡ ann.metric = two_back ann.metric metric_fits in
    let is_finite : eqb ann.metric 65535 ≡ false = ne_eqb _ _ finite in
    rw (metric, is_finite, has_hop, has_id, unreserved)
    (ap (λ (n : ℕ). announced key ann n (update_metric (update_octets ae len omit ann.seqno ann.metric field sub))) seqno ∙ ap (λ (n : ℕ). announced key ann ann.seqno n) metric)

-- an infinite metric retracts
pub retraction_told : (encoding : PrefixEncoding) (context : Context) (key : RouteKey) (ae len omit seqno : ℕ) (field sub : List ℕ)
    → key_event encoding context (update_octets ae len omit seqno 65535 field sub) key ≡ events.Retract key
retraction_told encoding context key ae len omit seqno field sub = refl

-- ---- the TLV

pub length-update : (dst src : AddressPrefix) (ae omit seqno metric : ℕ) → IsAddressPrefix dst → IsAddressPrefix src
    → length (update_octets ae dst.len omit seqno metric (drop omit (prefix_octets dst)) (source_sub src)) ≤ 45
length-update dst src ae omit seqno metric dst_fits src_fits =
    omega (arith, length-append (drop omit (prefix_octets dst)) (source_sub src), length-field dst omit dst_fits, octets_for-small dst dst_fits, length-source_sub src src_fits)

abbrev source_from : Family → List ℕ → Result AddressPrefix Reason
source_from family octets = and_then (sub_tlvs (places.InUpdate family) octets) (λ source. Ok (unwrap_or source (whole_family family)))

abbrev ended : Family → Result (Option AddressPrefix) Reason → Result AddressPrefix Reason
ended family given = and_then given (λ source. Ok (unwrap_or source (whole_family family)))

abbrev with_parts : Result AddressPrefix Reason → Result AddressPrefix Reason → Result RouteKey Reason
with_parts dst src = and_then dst (λ d. and_then src (λ s. Ok (key d s)))

abbrev ok_prefix : AddressPrefix → Result AddressPrefix Reason
ok_prefix p = Ok p

abbrev keyed : PrefixEncoding → Context → List ℕ → Result RouteKey Reason → Event
keyed encoding context body key = unless_ignored (key_reason context encoding body key) (key_tells context encoding body key)

abbrev as_said : Event → Result Event Fault
as_said event = Ok event

-- an Update of this destination and source, whose key says this event
pub update_told : (context : Context) (at : ℕ) (encoding : PrefixEncoding) (dst src : AddressPrefix) (omit seqno metric : ℕ) (event : Event)
    → IsAddressPrefix dst → IsAddressPrefix src → src.address.family ≡ dst.address.family → dst.address.family ≡ prefix_family encoding
    → is_read context.via_v6 encoding ≡ true → Omits (prefix_for encoding context.defaults) dst omit
    → key_event encoding context (update_octets (number_of encoding) dst.len omit seqno metric (drop omit (prefix_octets dst)) (source_sub src)) (key dst src) ≡ event
    → Tells context at (laid_out 8 (update_octets (number_of encoding) dst.len omit seqno metric (drop omit (prefix_octets dst)) (source_sub src))) (spoken (event ∷ []))
    (with_default encoding context dst.address)
update_told context at encoding dst src omit seqno metric event dst_fits src_fits one_family family_is read omits says =
    let ae = number_of encoding in
    let family = prefix_family encoding in
    let body = update_octets ae dst.len omit seqno metric (drop omit (prefix_octets dst)) (source_sub src) in
    let long : 10 ≤ length body = omega arith in
    let is : encoding_of context.via_v6 ae ≡ Some encoding = encoding_of-read context.via_v6 encoding read in
    let forms : formed_by context encoding body ≡ Ok dst =
    subst (λ (f : Family). formed f (prefix_for encoding context.defaults) body ≡ Ok dst) family_is
    (formed_told (prefix_for encoding context.defaults) dst ae omit seqno metric (source_sub src) dst_fits omits) in
    let told : ReadsSource src (source_sub src) = source_told src src_fits in
    let gives : source_from src.address.family (source_sub src) ≡ Ok src =
    ap (λ (r : Result (Option AddressPrefix) Reason). ended src.address.family r) told.read ∙ ap (λ (p : AddressPrefix). ok_prefix p) told.is in
    let source : source_of family body ≡ Ok src =
    ap (λ (octets : List ℕ). source_from family octets) (behind_field dst ae omit seqno metric (source_sub src) dst_fits)
    ∙ subst (λ (f : Family). source_from f (source_sub src) ≡ Ok src) (one_family ∙ family_is) gives in
    let keys : key_of context encoding body ≡ Ok (key dst src) =
    ap (λ (r : Result AddressPrefix Reason). with_parts r (source_of family body)) forms ∙ ap (λ (r : Result AddressPrefix Reason). with_parts (Ok dst) r) source in
    Tells-one context at 8 body event (with_default encoding context dst.address)
    (record { kind_fits = omega arith; len_fits = omega (arith, length-update dst src ae omit seqno metric dst_fits src_fits); pad1 = λ e. absurd cc })
    (said-read context (one at 8 body) refl encoding long is ∙ ap (λ (k : Result RouteKey Reason). as_said (keyed encoding context body k)) keys ∙ ap (λ (e : Event). as_said e) says)
    (updated-flags context encoding body long is dst.address dst forms refl)
