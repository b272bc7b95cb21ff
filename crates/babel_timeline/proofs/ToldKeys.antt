-- The prefixes of a key that a TLV tells of are no longer than their addresses, and have zeros past their length.
use Rattle.std.proofs.Common.{◌≡◌, ℕ, ◌+◌, ◌-◌, ◌*◌, ◌/◌, ◌%◌, ◌^◌, ◌<◌, ◌≤◌, Bool, true, false, cond, ltb, eqb, List, [], ◌∷◌, ◌&&◌, ◌||◌, length, drop, Option, Some, None, Result, Ok, Err}
use Rattle.std.proofs.Common.{refl, sym, ap, subst, ◌∙◌, arith}
use Rattle.std.specs.Prelude.{IfOk, IfSome, is_none, is_some, nat_le, slice_index, unwrap_or}
use Rattle.std.proofs.Math.Nat.{div-mul-le_self, mul-mod_left}
use Rattle.std.proofs.lemmas.Bool.Decides.{nat_tests}
use Rattle.std.proofs.lemmas.Nat.{div-add-mod'}
use Rattle.babel_prefix.specs.declared.family.Family.{Family}
use Rattle.babel_prefix.specs.declared.family.Family.TheVariants.{V4, V6}
use Rattle.babel_prefix.specs.Address.{Address, AddressPrefix, IsAddress, whole_family}
use Rattle.babel_prefix.specs.Block.{leading_bits}
use Rattle.babel_prefix.specs.Covers.{Covers, IsAddressPrefix}
use Rattle.babel_prefix.specs.Width.{octet_count, width_of}
use Rattle.babel_tlv.specs.declared.event.Event.{Event}
use Rattle.babel_tlv.specs.declared.event.Event.TheVariants as events
use Rattle.babel_tlv.specs.declared.reason.Reason.{Reason}
use Rattle.babel_tlv.specs.declared.reason.Reason.TheVariants as reasons
use Rattle.babel_tlv.specs.Context.{Context}
use Rattle.babel_tlv.specs.Encodings.{prefix_family}
use Rattle.babel_tlv.specs.Forming.{field_len, formed, octets_for, omitted, prefix_from, prefix_len}
use Rattle.babel_tlv.specs.Framing.{TlvAt, tlvs_of}
use Rattle.babel_tlv.specs.Keys.{IsKey}
use Rattle.babel_tlv.specs.Kept.{prefix_for}
use Rattle.babel_tlv.specs.Reading.{formed_by, source_prefix}
use Rattle.babel_tlv.specs.Route.{Announcement, RouteKey, is_reserved}
use Rattle.babel_tlv.specs.Says.{route_tells, source_of, tells}
use Rattle.babel_tlv.specs.SubTlv.{and_then, is_bad_source, item_read, items_read, skipped, sub_tlvs}
use Rattle.babel_tlv.proofs.TellsLaws.{IsToldIn, tells-holds}
use Rattle.babel_table.specs.BestMatch.{ContainsBoth}

-- ---- a prefix of a length that is one, with zeros past it, is one where it has an address

abbrev pub IsCut : AddressPrefix → Type 0
IsCut p = (p.len ≤ width_of p.address.family) × (p.address.bits % 2 ^ (width_of p.address.family - p.len) ≡ 0)

cut_is : (p : AddressPrefix) (a : Address) → IsCut p → IsAddress a → Covers p a → IsAddressPrefix p
cut_is p a cut fits has =
    let w : ℕ = width_of p.address.family in
    let k : ℕ = 2 ^ (w - p.len) in
    let top : a.bits < 2 ^ w = subst (λ (f : Family). a.bits < 2 ^ width_of f) (sym has.0) fits in
    let whole : p.address.bits / k * k ≡ p.address.bits = omega (arith, div-add-mod' p.address.bits k, cut.1) in
    let same : a.bits / k * k ≡ p.address.bits / k * k = ap (λ (n : ℕ). n * k) has.1 in
    let start : p.address.bits < 2 ^ w = omega (arith, top, whole, same, div-mul-le_self a.bits k) in
    record { len_in_range = cut.0; start_in_range = start; rest_is_zero = cut.1 }

abbrev pub AreCut : RouteKey → Type 0
AreCut key = IsCut key.dst × IsCut key.src

pub cut_key : (key : RouteKey) (d s : Address) → AreCut key → IsAddress d → IsAddress s → d.family ≡ s.family → ContainsBoth d s key → IsKey key
cut_key key d s cut d_fits s_fits one both = record {
  dst = cut_is key.dst d cut.0 d_fits both.0;
  src = cut_is key.src s cut.1 s_fits both.1;
  one_family = both.0.0 ∙ one ∙ sym both.1.0;
}

cut_from : (family : Family) (len : ℕ) (octets : List ℕ) → len ≤ width_of family → IsCut (prefix_from family len octets)
cut_from family len octets le = (le, mul-mod_left (leading_bits (width_of family) len _) (2 ^ (width_of family - len)))

cut_whole : (family : Family) → IsCut (whole_family family)
cut_whole V4 = (omega arith, refl)
cut_whole V6 = (omega arith, refl)

-- ---- what holds of each prefix of a length that is one holds of what is read

abbrev Given : Type 0
Given = Result (Option AddressPrefix) Reason

abbrev ok_prefix : AddressPrefix → Result AddressPrefix Reason
ok_prefix p = Ok p

module _ (Is : AddressPrefix → Type 0) (family : Family) (each : (len : ℕ) (octets : List ℕ) → len ≤ width_of family → Is (prefix_from family len octets)) where
  within : (len : ℕ) → ltb (width_of family) len ≡ false → len ≤ width_of family
  within len e = grind (arith, nat_tests)

  formed_is : (default : Option Address) (body : List ℕ) → IfOk (formed family default body) Is
  formed_is default body =
      by (ltb (width_of family) (prefix_len body)) (ltb (octet_count family) (omitted body)) (ltb 0 (omitted body) && is_none default) (ltb (length body) (10 + field_len body)) _
      (λ e. each _ _ (within (prefix_len body) e))
    where
      by : (above past undefined short : Bool) (prefix : AddressPrefix) → (above ≡ false → Is prefix)
          → IfOk (cond above (Err reasons.BadPlen) (cond past (Err reasons.BadOmitted) (cond undefined (Err reasons.NoDefault) (cond short (Err reasons.ShortPrefix) (Ok prefix))))) Is
      by true past undefined short prefix is = tt
      by false true undefined short prefix is = tt
      by false false true short prefix is = tt
      by false false false true prefix is = tt
      by false false false false prefix is = is refl

  not_long : (a b c d : Bool) → (a || b || c || d) ≡ false → c ≡ false
  not_long true b c d e = absurd cc
  not_long false true c d e = absurd cc
  not_long false false true d e = absurd cc
  not_long false false false d e = refl

  good_len : (body : List ℕ) → is_bad_source family body ≡ false → slice_index body 0 ≤ width_of family
  good_len body e =
      let len : ℕ = slice_index body 0 in
      within len (not_long (eqb (length body) 0) (eqb len 0) (ltb (width_of family) len) (ltb (length body) (1 + octets_for len)) e)

  skipped_is : (mandatory : Bool) (source : Option AddressPrefix) → IfSome source Is → IfOk (cond mandatory (Err reasons.UnknownMandatory) (Ok source)) (λ given. IfSome given Is)
  skipped_is true source is = tt
  skipped_is false source is = is

  item_by : (source : Option AddressPrefix) (item : TlvAt) → IfSome source Is → (here again bad : Bool) → (bad ≡ false → Is (source_prefix family item.body))
      → IfOk (cond here (cond again (Err reasons.TwoSources) (cond bad (Err reasons.BadSource) (Ok (Some (source_prefix family item.body))))) (skipped source item)) (λ given. IfSome given Is)
  item_by source item is true true bad good = tt
  item_by source item is true false true good = tt
  item_by source item is true false false good = good refl
  item_by source item is false again bad good = skipped_is (nat_le 128 item.kind) source is

  on : (place : _) (whole : Bool) (items : List TlvAt) (given : Given)
      → ((source : Option AddressPrefix) → IfSome source Is → IfOk (items_read place whole source items) (λ given. IfSome given Is))
      → IfOk given (λ source. IfSome source Is) → IfOk (and_then given (λ source. items_read place whole source items)) (λ given. IfSome given Is)
  on place whole items (Ok source) later is = later source is
  on place whole items (Err reason) later is = tt

  items_are : (place : _) → ((source : Option AddressPrefix) (item : TlvAt) → IfSome source Is → IfOk (item_read place source item) (λ given. IfSome given Is)) → (whole : Bool)
      (source : Option AddressPrefix) (items : List TlvAt) → IfSome source Is → IfOk (items_read place whole source items) (λ given. IfSome given Is)
  items_are place item_is true source [] is = is
  items_are place item_is false source [] is = tt
  items_are place item_is whole source (item ∷ items) is = on place whole items (item_read place source item) (λ given. items_are place item_is whole given items) (item_is source item is)

  source_at : (place : _) → ((source : Option AddressPrefix) (item : TlvAt) → IfSome source Is → IfOk (item_read place source item) (λ given. IfSome given Is)) → Is (whole_family family)
      → (body : List ℕ) → IfOk (and_then (sub_tlvs place (drop (10 + field_len body) body)) (λ source. Ok (unwrap_or source (whole_family family)))) Is
  source_at place item_is whole body = by (sub_tlvs place (drop (10 + field_len body) body)) (items_are place item_is _ None (tlvs_of 0 (drop (10 + field_len body) body)) tt)
    where
      by : (given : Given) → IfOk given (λ source. IfSome source Is) → IfOk (and_then given (λ source. Ok (unwrap_or source (whole_family family)))) Is
      by (Ok None) is = whole
      by (Ok (Some source)) is = is
      by (Err reason) is = tt

  item_is : (source : Option AddressPrefix) (item : TlvAt) → IfSome source Is
      → IfOk (cond (eqb item.kind 128) (cond (is_some source) (Err reasons.TwoSources) (cond (is_bad_source family item.body) (Err reasons.BadSource) (Ok (Some (source_prefix family item.body)))))
      (skipped source item)) (λ given. IfSome given Is)
  item_is source item is = item_by source item is (eqb item.kind 128) (is_some source) (is_bad_source family item.body) (λ e. each _ _ (good_len item.body e))

  source_is : (body : List ℕ) → Is (whole_family family) → IfOk (source_of family body) Is
  source_is body whole = search (source_at, item_is, whole)

-- ---- what a TLV tells

key_parts : (dst src : Result AddressPrefix Reason) (key : RouteKey) → and_then dst (λ d. and_then src (λ s. Ok (record { dst = d; src = s }))) ≡ Ok key → (dst ≡ Ok key.dst) × (src ≡ Ok key.src)
key_parts (Ok d) (Ok s) key is = let same : record { dst = d; src = s } ≡ key = cc in (ap (λ (k : RouteKey). ok_prefix k.dst) same, ap (λ (k : RouteKey). ok_prefix k.src) same)
key_parts (Ok d) (Err reason) key is = absurd cc
key_parts (Err reason) src key is = absurd cc

told_cut : (context : Context) (encoding : _) (body : List ℕ) (key : RouteKey) → IsToldIn context encoding body key → AreCut key
told_cut context encoding body key told =
    let family = prefix_family encoding in
    let parts = key_parts (formed_by context encoding body) (source_of family body) key told.is_key in (
      subst (λ (r : Result AddressPrefix Reason). IfOk r IsCut) parts.0 (formed_is IsCut family (cut_from family) (prefix_for encoding context.defaults) body),
      subst (λ (r : Result AddressPrefix Reason). IfOk r IsCut) parts.1 (source_is IsCut family (cut_from family) body (cut_whole family)),
    )

abbrev pub AnnouncesFor : (RouteKey → Type 0) → Event → Type 0
AnnouncesFor Is (events.Announce key ann) = Is key
AnnouncesFor Is event = Unit {0}

-- what is announced has a key of such prefixes
pub tells_cut : (context : Context) (tlv : TlvAt) → AnnouncesFor AreCut (tells context tlv)
tells_cut context =
    tells-holds (AnnouncesFor AreCut) context tt tt (λ encoding body key told. tt) (λ encoding body key told id hop is. route key body id hop (told_cut context encoding body key told))
  where
    by : (reserved : Bool) (key : RouteKey) (ann : Announcement) → AreCut key → AnnouncesFor AreCut (cond reserved events.Nothing (events.Announce key ann))
    by true key ann cut = tt
    by false key ann cut = cut

    route : (key : RouteKey) (body : List ℕ) (id : Option (List ℕ)) (hop : Option Address) → AreCut key → AnnouncesFor AreCut (route_tells key body id hop)
    route key body None hop cut = tt
    route key body (Some id) None cut = tt
    route key body (Some id) (Some hop) cut = by (is_reserved id) key _ cut
