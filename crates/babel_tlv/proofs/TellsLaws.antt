-- Where a TLV is ignored, or refuses the dump, it tells nothing; and what holds of all that TLVs tell.
use Rattle.std.proofs.Common.{◌≡◌, ℕ, Bool, true, false, cond, eqb, leb, List, ◌&&◌, not, length, Option, Some, None, Result, Ok, Err, refl, ap, subst, arith, ltb, drop, ◌+◌}
use Rattle.std.specs.Prelude.{is_none, is_ok, IfOk, IfSome, unwrap_or}
use Rattle.std.specs.Option.{option_map}
use Rattle.std.specs.Result.{result_err}
use Rattle.std.proofs.lemmas.Bool.Decides.{nat_tests}
use Rattle.babel_prefix.specs.declared.family.Family.{Family}
use Rattle.babel_prefix.specs.Width.{octet_count, width_of}
use Rattle.babel_prefix.specs.Address.{Address, AddressPrefix, whole_family}
use Rattle.babel_tlv.specs.declared.event.Event.{Event}
use Rattle.babel_tlv.specs.declared.event.Event.TheVariants as events
use Rattle.babel_tlv.specs.declared.place.Place.TheVariants as places
use Rattle.babel_tlv.specs.declared.prefix_encoding.PrefixEncoding.{PrefixEncoding}
use Rattle.babel_tlv.specs.declared.reason.Reason.{Reason}
use Rattle.babel_tlv.specs.declared.reason.Reason.TheVariants as reasons
use Rattle.babel_tlv.specs.Context.{Context}
use Rattle.babel_tlv.specs.Reading.{formed_by}
use Rattle.babel_tlv.specs.Encodings.{encoding_of, hop_family, prefix_family}
use Rattle.babel_tlv.specs.Forming.{field_len, formed, omitted, prefix_from, prefix_len, sets_router_id, update_encoding, update_metric}
use Rattle.babel_tlv.specs.Framing.{TlvAt}
use Rattle.babel_tlv.specs.Kept.{kept_for, prefix_for}
use Rattle.babel_tlv.specs.Route.{RouteKey, is_reserved}
use Rattle.babel_tlv.specs.Says.{IgnoredTellsNothing, current_router_id, encoded_reason, hop_reason, key_of, key_reason, key_tells}
use Rattle.babel_tlv.specs.Says.{route_reason, route_tells, router_id_reason, source_of, tells, wildcard_reason, wildcard_tells}
use Rattle.babel_tlv.specs.SubTlv.{and_then, sub_tlvs}
use Rattle.babel_tlv.proofs.SubTlvLaws.{sub_tlvs_are}

abbrev ok_prefix : AddressPrefix → Result AddressPrefix Reason
ok_prefix p = Ok p

-- nothing is told, if there is a reason
abbrev IsQuiet : Option Reason → Event → Type 0
IsQuiet reason event = (r : Reason) → reason ≡ Some r → event ≡ events.Nothing

wildcard_by : (metric len omit : Bool) (given : Result (Option AddressPrefix) Reason)
    → IsQuiet (cond (not metric) (Some reasons.WildcardFinite) (cond (not (len && omit)) (Some reasons.WildcardPrefix) (result_err given)))
    (cond (metric && len && omit && is_ok given) events.RetractAll events.Nothing)
wildcard_by false len omit given r is = refl
wildcard_by true false omit given r is = refl
wildcard_by true true false given r is = refl
wildcard_by true true true (Ok source) r is = absurd cc
wildcard_by true true true (Err reason) r is = refl

wildcard_quiet : (body : List ℕ) → IsQuiet (wildcard_reason body) (wildcard_tells body)
wildcard_quiet body = wildcard_by (eqb (update_metric body) 65535) (eqb (prefix_len body) 0) (eqb (omitted body) 0) (sub_tlvs places.InWildcard (drop 10 body))

route_quiet : (key : RouteKey) (body : List ℕ) (id : Option (List ℕ)) (hop : Option Address) → IsQuiet (route_reason id hop) (route_tells key body id hop)
route_quiet key body None hop = λ r is. refl
route_quiet key body (Some id) None = λ r is. refl
route_quiet key body (Some id) (Some hop) = by (is_reserved id) _
  where
    by : (reserved : Bool) (event : Event) → IsQuiet (cond reserved (Some reasons.ReservedRouterId) None) (cond reserved events.Nothing event)
    by true event r is = refl
    by false event r is = absurd cc

key_quiet : (context : Context) (encoding : PrefixEncoding) (body : List ℕ) (key : Result RouteKey Reason) → IsQuiet (key_reason context encoding body key) (key_tells context encoding body key)
key_quiet context encoding body (Err reason) = λ r is. refl
key_quiet context encoding body (Ok key) =
    by (eqb (update_metric body) 65535) _ _ (route_quiet key body (current_router_id context body key.dst) (kept_for (hop_family encoding) context.next_hops))
  where
    by : (infinite : Bool) (reason : Option Reason) (event : Event) → IsQuiet reason event → IsQuiet (cond infinite None reason) (cond infinite (events.Retract key) event)
    by true reason event quiet = λ r is. absurd cc
    by false reason event quiet = quiet

abbrev encoded_tells : Context → List ℕ → Option PrefixEncoding → Event
encoded_tells context body encoding = unwrap_or (option_map (λ e. key_tells context e body (key_of context e body)) encoding) events.Nothing

encoded_quiet : (context : Context) (body : List ℕ) (encoding : Option PrefixEncoding) → IsQuiet (encoded_reason context body encoding) (encoded_tells context body encoding)
encoded_quiet context body None = λ r is. refl
encoded_quiet context body (Some encoding) = key_quiet context encoding body (key_of context encoding body)

told_by : (id hop update long wild : Bool) (id_reason hop_reason wild_reason encoded : Option Reason) (w e : Event) → IsQuiet wild_reason w → IsQuiet encoded e
    → (id ≡ true → update ≡ false) → (hop ≡ true → update ≡ false)
    → IsQuiet (cond id id_reason (cond hop hop_reason (cond update (cond (not long) (Some reasons.Short) (cond wild wild_reason encoded)) None)))
    (cond (not (update && long)) events.Nothing (cond wild w e))
told_by id hop false long wild a b c d w e w_quiet e_quiet no_id no_hop = λ r is. refl
told_by id hop true false wild a b c d w e w_quiet e_quiet no_id no_hop = λ r is. refl
told_by true hop true true wild a b c d w e w_quiet e_quiet no_id no_hop = λ r is. absurd (let f : true ≡ false = no_id refl in cc)
told_by false true true true wild a b c d w e w_quiet e_quiet no_id no_hop = λ r is. absurd (let f : true ≡ false = no_hop refl in cc)
told_by false false true true true a b c d w e w_quiet e_quiet no_id no_hop = w_quiet
told_by false false true true false a b c d w e w_quiet e_quiet no_id no_hop = e_quiet

refused_by : (update wild : Bool) (body : List ℕ) (sets : Bool) (context : Context) (encoding : Option PrefixEncoding) (w : Event)
    → (update && not wild && is_none encoding && sets) ≡ true → cond (not update) events.Nothing (cond wild w (encoded_tells context body encoding)) ≡ events.Nothing
refused_by false wild body sets context encoding w is = refl
refused_by true true body sets context encoding w is = absurd cc
refused_by true false body sets context None w is = refl
refused_by true false body sets context (Some encoding) w is = absurd cc

pub ignored_tells_nothing : IgnoredTellsNothing
ignored_tells_nothing context tlv =
    let body = tlv.body in
    let encoding = encoding_of context.via_v6 (update_encoding body) in (
      told_by (eqb tlv.kind 6) (eqb tlv.kind 7) (eqb tlv.kind 8) (leb 10 (length body)) (eqb (update_encoding body) 0)
          (router_id_reason body) (hop_reason body) (wildcard_reason body) (encoded_reason context body encoding) (wildcard_tells body) (encoded_tells context body encoding)
          (wildcard_quiet body) (encoded_quiet context body encoding) (λ six. grind (arith, nat_tests)) (λ seven. grind (arith, nat_tests)),
      refused_by (eqb tlv.kind 8 && leb 10 (length body)) (eqb (update_encoding body) 0) body (sets_router_id body) context encoding (wildcard_tells body),
    )

-- ---- what a TLV tells

-- a key that an Update of an encoding names, by the prefix that it forms and its sub-TLVs
pub record IsToldIn (context : Context) (encoding : PrefixEncoding) (body : List ℕ) (key : RouteKey) : Type 0 where
  pub is_read : encoding_of context.via_v6 (update_encoding body) ≡ Some encoding
  pub is_key : key_of context encoding body ≡ Ok key

-- what holds of each prefix of a family, whatever its octets, holds of one that is formed
formed_is : (Is : AddressPrefix → Type 0) (family : Family) (default : Option Address) (body : List ℕ) → ((len : ℕ) (octets : List ℕ) → Is (prefix_from family len octets))
    → IfOk (formed family default body) Is
formed_is Is family default body each =
    by (ltb (width_of family) (prefix_len body)) (ltb (octet_count family) (omitted body)) (ltb 0 (omitted body) && is_none default) (ltb (length body) (10 + field_len body)) _ (each _ _)
  where
    by : (above past undefined short : Bool) (prefix : AddressPrefix) → Is prefix
        → IfOk (cond above (Err reasons.BadPlen) (cond past (Err reasons.BadOmitted) (cond undefined (Err reasons.NoDefault) (cond short (Err reasons.ShortPrefix) (Ok prefix))))) Is
    by true past undefined short prefix is = tt
    by false true undefined short prefix is = tt
    by false false true short prefix is = tt
    by false false false true prefix is = tt
    by false false false false prefix is = is

pub source_is : (Is : AddressPrefix → Type 0) (family : Family) (body : List ℕ) → ((len : ℕ) (octets : List ℕ) → Is (prefix_from family len octets)) → Is (whole_family family)
    → IfOk (source_of family body) Is
source_is Is family body each whole =
    let octets = drop (10 + field_len body) body in
    by (sub_tlvs (places.InUpdate family) octets) (sub_tlvs_are Is family (λ item. each _ _) octets)
  where
    by : (given : Result (Option AddressPrefix) Reason) → IfOk given (λ source. IfSome source Is)
        → IfOk (and_then given (λ source. Ok (unwrap_or source (whole_family family)))) Is
    by (Ok None) is = whole
    by (Ok (Some source)) is = is
    by (Err reason) is = tt

key_parts : (dst src : Result AddressPrefix Reason) (key : RouteKey) → and_then dst (λ d. and_then src (λ s. Ok (record { dst = d; src = s }))) ≡ Ok key → (dst ≡ Ok key.dst) × (src ≡ Ok key.src)
key_parts (Ok d) (Ok s) key is = let same : record { dst = d; src = s } ≡ key = cc in (ap (λ (k : RouteKey). ok_prefix k.dst) same, ap (λ (k : RouteKey). ok_prefix k.src) same)
key_parts (Ok d) (Err reason) key is = absurd cc
key_parts (Err reason) src key is = absurd cc

-- it holds of both prefixes of a key that is told
pub told_key-is : (Is : AddressPrefix → Type 0) (context : Context) (encoding : PrefixEncoding) (body : List ℕ) (key : RouteKey)
    → ((len : ℕ) (octets : List ℕ) → Is (prefix_from (prefix_family encoding) len octets)) → Is (whole_family (prefix_family encoding))
    → IsToldIn context encoding body key → Is key.dst × Is key.src
told_key-is Is context encoding body key each whole told =
    let family = prefix_family encoding in
    let parts = key_parts (formed_by context encoding body) (source_of family body) key told.is_key in (
      subst (λ (r : Result AddressPrefix Reason). IfOk r Is) parts.0 (formed_is Is family (prefix_for encoding context.defaults) body each),
      subst (λ (r : Result AddressPrefix Reason). IfOk r Is) parts.1 (source_is Is family body each whole),
    )

module _ (P : Event → Type 0) (context : Context) (nothing : P events.Nothing) (retract_all : P events.RetractAll)
    (retract : (encoding : PrefixEncoding) (body : List ℕ) (key : RouteKey) → IsToldIn context encoding body key → P (events.Retract key))
    (route : (encoding : PrefixEncoding) (body : List ℕ) (key : RouteKey) → IsToldIn context encoding body key → (id : Option (List ℕ)) (hop : Option Address)
    → hop ≡ kept_for (hop_family encoding) context.next_hops → P (route_tells key body id hop)) where
  one_of : (b : Bool) (x y : Event) → P x → P y → P (cond b x y)
  one_of true x y here there = here
  one_of false x y here there = there

  key_holds : (encoding : PrefixEncoding) (body : List ℕ) → encoding_of context.via_v6 (update_encoding body) ≡ Some encoding
      → (key : Result RouteKey Reason) → key_of context encoding body ≡ key → P (key_tells context encoding body key)
  key_holds encoding body read (Err reason) is = nothing
  key_holds encoding body read (Ok key) is =
      let told : IsToldIn context encoding body key = record { is_read = read; is_key = is } in
      let hop = kept_for (hop_family encoding) context.next_hops in
      one_of (eqb (update_metric body) 65535) (events.Retract key) (route_tells key body (current_router_id context body key.dst) hop)
      (retract encoding body key told) (route encoding body key told (current_router_id context body key.dst) hop refl)

  encoded_holds : (body : List ℕ) (encoding : Option PrefixEncoding) → encoding_of context.via_v6 (update_encoding body) ≡ encoding → P (encoded_tells context body encoding)
  encoded_holds body None is = nothing
  encoded_holds body (Some encoding) is = key_holds encoding body is (key_of context encoding body) refl

  -- what holds of each of these holds of what a TLV tells
  pub tells-holds : (tlv : TlvAt) → P (tells context tlv)
  tells-holds tlv =
      let body = tlv.body in
      let encoding = encoding_of context.via_v6 (update_encoding body) in
      one_of (not (eqb tlv.kind 8 && leb 10 (length body))) events.Nothing (cond (eqb (update_encoding body) 0) (wildcard_tells body) (encoded_tells context body encoding)) nothing
      (one_of (eqb (update_encoding body) 0) (wildcard_tells body) (encoded_tells context body encoding)
      (search (one_of, retract_all, nothing)) (encoded_holds body encoding refl))
