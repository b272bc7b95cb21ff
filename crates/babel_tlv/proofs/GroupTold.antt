-- The groups of a packet's pairs are read as what each pair says.
use Rattle.std.proofs.Common.{◌≡◌, ℕ, ◌+◌, Bool, true, false, cond, List, [], ◌∷◌, length, map, drop, Option, Some, None, refl, sym, ap, subst, ◌∙◌}
use Rattle.std.specs.Prelude.{◌==◌, ◌&&◌}
use Rattle.std.specs.List.{AllByRecursion}
use Rattle.std.specs.Str.{bytes_eq}
use Rattle.std.proofs.lemmas.Bool.{eqb-true}
use Rattle.std.proofs.lemmas.Slice.Eq.{bytes_eq-Decides}
use Rattle.babel_prefix.specs.declared.family.Family.{Family}
use Rattle.babel_prefix.specs.declared.family.Family.TheVariants.{V4, V6}
use Rattle.babel_prefix.specs.Width.{same_family}
use Rattle.babel_prefix.specs.Address.{Address, IsAddress}
use Rattle.babel_prefix.proofs.EntryLaws.{same_family-is}
use Rattle.babel_tlv.specs.declared.event.Event.{Event}
use Rattle.babel_tlv.specs.declared.held.Held.{Held}
use Rattle.babel_tlv.specs.declared.held.Held.TheVariants as helds
use Rattle.babel_tlv.specs.Route.{RouteKey}
use Rattle.babel_tlv.specs.Pair.{Pair}
use Rattle.babel_tlv.specs.Keys.{IsAnnouncement}
use Rattle.babel_tlv.specs.Pairs.{FitsKey, HopFits, IsPair}
use Rattle.babel_tlv.specs.declared.prefix_encoding.PrefixEncoding.{PrefixEncoding}
use Rattle.babel_tlv.specs.declared.prefix_encoding.PrefixEncoding.TheVariants.{Ipv4, Ipv6, Ipv4ViaIpv6}
use Rattle.babel_tlv.specs.Encodings.{hop_family, number_of}
use Rattle.babel_tlv.specs.Context.{Context}
use Rattle.babel_tlv.specs.Kept.{Kept, KeptPrefixes, kept_for, kept_with, prefix_for, prefix_with}
use Rattle.babel_tlv.specs.Group.{encoding_for, pair_encoding, is_id, is_hop, router_id_tlv, next_hop_tlv, held_seqno, held_metric, update_tlv}
use Rattle.babel_tlv.specs.Group.{shared_octets, prefix_octets, source_sub, group, groups_behind}
use Rattle.babel_tlv.specs.Writing.{route_in, Written, written_after, group_in, with_held}
use Rattle.babel_tlv.specs.News.{spoken, held_event, pair_event}
use Rattle.babel_tlv.proofs.EncodingLaws.{hop_family-for, is_read, prefix_family-for, read-for}
use Rattle.babel_tlv.proofs.WrittenLaws.{with_pair-written_after, group_in-written_after}
use Rattle.babel_tlv.proofs.Telling.{Tells, Tells-none, Tells-append}
use Rattle.babel_tlv.proofs.IdTold.{with_id, id_told}
use Rattle.babel_tlv.proofs.HopTold.{with_hop, hop_told}
use Rattle.babel_tlv.proofs.FormedTold.{IsKnown, omits, update_octets}
use Rattle.babel_tlv.proofs.UpdateTold.{key_event, with_default, update_told, route_told, retraction_told}

-- the parser knows what the packet holds so far
pub record Agrees (context : Context) (so_far : Written) : Type 0 where
  pub router_id : IsKnown so_far.router_id context.router_id
  pub next_hop : (family : Family) → IsKnown (kept_for family so_far.next_hops) (kept_for family context.next_hops)
  pub default : (encoding : PrefixEncoding) → IsKnown (prefix_for encoding so_far.dsts) (prefix_for encoding context.defaults)

pub Agrees-start : (context : Context) → Agrees context (written_after [])
Agrees-start context = record { router_id = tt; next_hop = no_hop; default = no_default }
  where
    no_hop : (family : Family) → IsKnown (kept_for family (written_after []).next_hops) (kept_for family context.next_hops)
    no_hop V4 = tt
    no_hop V6 = tt

    no_default : (encoding : PrefixEncoding) → IsKnown (prefix_for encoding (written_after []).dsts) (prefix_for encoding context.defaults)
    no_default Ipv4 = tt
    no_default Ipv6 = tt
    no_default Ipv4ViaIpv6 = tt

-- what a route's Router-Id and Next Hop leave after them
abbrev context_held : Family → Held → Context → Context
context_held family (helds.Route ann) context = with_hop family (with_id context ann.router_id) ann.next_hop
context_held family helds.Unreachable context = context

-- what a pair leaves after it
abbrev context_with : Pair → Context → Context
context_with pair context = with_default (pair_encoding pair) (context_held (hop_family (pair_encoding pair)) pair.1 context) pair.0.dst.address

hop_known : (family : Family) (hop : Address) (one other : Kept) → ((f : Family) → IsKnown (kept_for f one) (kept_for f other))
    → (f : Family) → IsKnown (kept_for f (kept_with family hop one)) (kept_for f (kept_with family hop other))
hop_known V4 hop one other known V4 = refl
hop_known V4 hop one other known V6 = known V6
hop_known V6 hop one other known V4 = known V4
hop_known V6 hop one other known V6 = refl

dst_known : (encoding : PrefixEncoding) (dst : Address) (one other : KeptPrefixes) → ((e : PrefixEncoding) → IsKnown (prefix_for e one) (prefix_for e other))
    → (e : PrefixEncoding) → IsKnown (prefix_for e (prefix_with encoding dst one)) (prefix_for e (prefix_with encoding dst other))
dst_known Ipv4 dst one other known Ipv4 = refl
dst_known Ipv4 dst one other known Ipv6 = known Ipv6
dst_known Ipv4 dst one other known Ipv4ViaIpv6 = known Ipv4ViaIpv6
dst_known Ipv6 dst one other known Ipv4 = known Ipv4
dst_known Ipv6 dst one other known Ipv6 = refl
dst_known Ipv6 dst one other known Ipv4ViaIpv6 = known Ipv4ViaIpv6
dst_known Ipv4ViaIpv6 dst one other known Ipv4 = known Ipv4
dst_known Ipv4ViaIpv6 dst one other known Ipv6 = known Ipv6
dst_known Ipv4ViaIpv6 dst one other known Ipv4ViaIpv6 = refl

Agrees-held : (family : Family) (held : Held) (context : Context) (so_far : Written) → Agrees context so_far → Agrees (context_held family held context) (with_held family held so_far)
Agrees-held family (helds.Route ann) context so_far agrees =
    record { router_id = refl; next_hop = hop_known family ann.next_hop so_far.next_hops context.next_hops agrees.next_hop; default = agrees.default }
Agrees-held family helds.Unreachable context so_far agrees = agrees

Agrees-after : (context : Context) (earlier : List Pair) (pair : Pair) → Agrees context (written_after earlier) → Agrees (context_with pair context) (written_after (pair ∷ earlier))
Agrees-after context earlier pair agrees =
    let encoding = pair_encoding pair in
    let family = hop_family encoding in
    let so_far = with_held family pair.1 (written_after earlier) in
    let middle = context_held family pair.1 context in
    let known : Agrees middle so_far = Agrees-held family pair.1 context (written_after earlier) agrees in
    subst (λ (w : Written). Agrees (context_with pair context) w) (with_pair-written_after pair earlier) (record {
      router_id = known.router_id;
      next_hop = known.next_hop;
      default = dst_known encoding pair.0.dst.address so_far.dsts middle.defaults known.default;
    })

-- what is read stays, and so do default prefixes
via_held : (family : Family) (held : Held) (context : Context) → (context_held family held context).via_v6 ≡ context.via_v6
via_held family (helds.Route ann) context = refl
via_held family helds.Unreachable context = refl

default_kept : (encoding : PrefixEncoding) (family : Family) (held : Held) (context : Context) → prefix_for encoding (context_held family held context).defaults ≡ prefix_for encoding context.defaults
default_kept encoding family (helds.Route ann) context = refl
default_kept encoding family helds.Unreachable context = refl

-- ---- Router-Id, unless it is current

abbrev some_id : List ℕ → Option (List ℕ)
some_id id = Some id

abbrev some_hop : Address → Option Address
some_hop hop = Some hop

abbrev address : Family → ℕ → Address
address family bits = record { family = family; bits = bits }

id_by : (context : Context) (at : ℕ) (current id : List ℕ) → length id ≡ 8 → context.router_id ≡ Some current → (b : Bool) → bytes_eq current id ≡ b
    → Tells context at (cond b [] (router_id_tlv id)) [] (with_id context id)
id_by context at current id eight known true same =
    let e : context ≡ with_id context id = ap (λ (r : Option (List ℕ)). record context { router_id = r }) (known ∙ ap (λ (i : List ℕ). some_id i) ((bytes_eq-Decides current id).0 same)) in
    subst (λ (c : Context). Tells context at [] [] c) e (Tells-none context at)
id_by context at current id eight known false other = id_told context at id eight

id_part : (context : Context) (at : ℕ) (current : Option (List ℕ)) (id : List ℕ) → length id ≡ 8 → IsKnown current context.router_id
    → Tells context at (cond (is_id current id) [] (router_id_tlv id)) [] (with_id context id)
id_part context at None id eight known = id_told context at id eight
id_part context at (Some current) id eight known = id_by context at current id eight known (bytes_eq current id) refl

-- ---- Next Hop, unless it is current

kept : (family : Family) (context : Context) (hop : Address) → kept_for family context.next_hops ≡ Some hop → context ≡ with_hop family context hop
kept V4 context hop known = ap (λ (h : Option Address). record context { next_hops = record context.next_hops { v4 = h } }) known
kept V6 context hop known = ap (λ (h : Option Address). record context { next_hops = record context.next_hops { v6 = h } }) known

and_true : (a b : Bool) → (a && b) ≡ true → (a ≡ true) × (b ≡ true)
and_true true b e = (refl, e)
and_true false b e = absurd cc

same_hop : (one other : Address) → (same_family one.family other.family && (one.bits == other.bits)) ≡ true → one ≡ other
same_hop one other e =
    let both = and_true (same_family one.family other.family) (one.bits == other.bits) e in
    ap (λ (f : Family). address f one.bits) (same_family-is one.family other.family both.0) ∙ ap (λ (n : ℕ). address other.family n) (eqb-true one.bits other.bits both.1)

hop_by : (context : Context) (at : ℕ) (current hop : Address) → IsAddress hop → kept_for hop.family context.next_hops ≡ Some current
    → (b : Bool) → (same_family current.family hop.family && (current.bits == hop.bits)) ≡ b
    → Tells context at (cond b [] (next_hop_tlv hop)) [] (with_hop hop.family context hop)
hop_by context at current hop fits known true same =
    subst (λ (c : Context). Tells context at [] [] c) (kept hop.family context hop (known ∙ ap (λ (h : Address). some_hop h) (same_hop current hop same))) (Tells-none context at)
hop_by context at current hop fits known false other = hop_told context at hop fits

hop_part : (context : Context) (at : ℕ) (current : Option Address) (hop : Address) → IsAddress hop → IsKnown current (kept_for hop.family context.next_hops)
    → Tells context at (cond (is_hop current hop) [] (next_hop_tlv hop)) [] (with_hop hop.family context hop)
hop_part context at None hop fits known = hop_told context at hop fits
hop_part context at (Some current) hop fits known = hop_by context at current hop fits known (same_family current.family hop.family && (current.bits == hop.bits)) refl

-- ---- a route's Router-Id and Next Hop

-- an announcement whose next hop is of the family, or unreachable
abbrev IsOf : Family → Held → Type 0
IsOf family (helds.Route ann) = IsAnnouncement ann × (ann.next_hop.family ≡ family)
IsOf family helds.Unreachable = Unit {0}

is_of : (key : RouteKey) (held : Held) → FitsKey key held → IsOf (hop_family (encoding_for key.dst.address.family held)) held
is_of key (helds.Route ann) fits = (fits.0, hop_family-for key.dst.address.family ann fits.1)
is_of key helds.Unreachable fits = tt

tlvs_told : (context : Context) (at : ℕ) (so_far : Written) (family : Family) (held : Held) → IsOf family held → Agrees context so_far
    → Tells context at (route_in family so_far held) [] (context_held family held context)
tlvs_told context at so_far family (helds.Route ann) fits agrees =
    let id_octets = cond (is_id so_far.router_id ann.router_id) [] (router_id_tlv ann.router_id) in
    let hop_octets = cond (is_hop (kept_for family so_far.next_hops) ann.next_hop) [] (next_hop_tlv ann.next_hop) in
    let with_the_id = with_id context ann.router_id in
    let with_the_hop = with_hop family with_the_id ann.next_hop in
    let id_told = id_part context at so_far.router_id ann.router_id fits.0.eight agrees.router_id in
    let hop_known : IsKnown (kept_for family so_far.next_hops) (kept_for ann.next_hop.family with_the_id.next_hops) =
    subst (λ (f : Family). IsKnown (kept_for family so_far.next_hops) (kept_for f with_the_id.next_hops)) (sym fits.1) (agrees.next_hop family) in
    let hop_told : Tells with_the_id (at + length id_octets) hop_octets [] with_the_hop =
    subst (λ (f : Family). Tells with_the_id (at + length id_octets) hop_octets [] (with_hop f with_the_id ann.next_hop)) fits.1
    (hop_part with_the_id (at + length id_octets) (kept_for family so_far.next_hops) ann.next_hop fits.0.next_hop_fits hop_known) in
    Tells-append context with_the_id with_the_hop at id_octets hop_octets [] [] id_told hop_told
tlvs_told context at so_far family helds.Unreachable fits agrees = Tells-none context at

-- ---- the Update

has_hop : (family : Family) (hop : Address) (hops : Kept) → kept_for family (kept_with family hop hops) ≡ Some hop
has_hop V4 hop hops = refl
has_hop V6 hop hops = refl

held_told : (encoding : PrefixEncoding) (context : Context) (key : RouteKey) (held : Held) (ae len omit : ℕ) (field sub : List ℕ) → FitsKey key held
    → key_event encoding (context_held (hop_family encoding) held context) (update_octets ae len omit (held_seqno held) (held_metric held) field sub) key ≡ held_event key held
held_told encoding context key (helds.Route ann) ae len omit field sub fits =
    let family = hop_family encoding in
    route_told encoding (with_hop family (with_id context ann.router_id) ann.next_hop) key ae len omit field sub ann
    fits.0.seqno_fits fits.0.metric_fits fits.0.finite fits.0.unreserved
    refl (has_hop family ann.next_hop context.next_hops)
held_told encoding context key helds.Unreachable ae len omit field sub fits = retraction_told encoding context key ae len omit 0 field sub

-- a pair says something
speaks : (key : RouteKey) (held : Held) → spoken (held_event key held ∷ []) ≡ held_event key held ∷ []
speaks key (helds.Route ann) = refl
speaks key helds.Unreachable = refl

-- ---- the group

group_told : (context : Context) (at : ℕ) (so_far : Written) (pair : Pair) → IsPair pair → HopFits context.via_v6 pair.0 pair.1 → Agrees context so_far
    → Tells context at (group_in so_far pair) (pair_event pair ∷ []) (context_with pair context)
group_told context at so_far pair fits hop_fits agrees =
    let encoding = pair_encoding pair in
    let family = hop_family encoding in
    let dst = pair.0.dst in
    let src = pair.0.src in
    let route = route_in family so_far pair.1 in
    let omit = shared_octets (prefix_for encoding so_far.dsts) dst in
    let update = update_tlv encoding omit pair.0 (held_seqno pair.1) (held_metric pair.1) in
    let middle = context_held family pair.1 context in
    let known : IsKnown (prefix_for encoding so_far.dsts) (prefix_for encoding middle.defaults) =
    subst (λ (d : Option Address). IsKnown (prefix_for encoding so_far.dsts) d) (sym (default_kept encoding family pair.1 context)) (agrees.default encoding) in
    let read : is_read middle.via_v6 encoding ≡ true =
    subst (λ (b : Bool). is_read b encoding ≡ true) (sym (via_held family pair.1 context)) (read-for context.via_v6 pair.0 pair.1 hop_fits) in
    let says = held_told encoding context pair.0 pair.1 (number_of encoding) dst.len omit (drop omit (prefix_octets dst)) (source_sub src) fits.fits in
    let up_told : Tells middle (at + length route) update (pair_event pair ∷ []) (context_with pair context) =
    subst (λ (es : List Event). Tells middle (at + length route) update es (context_with pair context)) (speaks pair.0 pair.1)
    (update_told middle (at + length route) encoding dst src omit (held_seqno pair.1) (held_metric pair.1) (pair_event pair) fits.dst fits.src (sym fits.one_family)
    (sym (prefix_family-for dst.address.family pair.1)) read (omits (prefix_for encoding so_far.dsts) (prefix_for encoding middle.defaults) dst known) says) in
    Tells-append context middle (context_with pair context) at route update [] (pair_event pair ∷ [])
    (tlvs_told context at so_far family pair.1 (is_of pair.0 pair.1 fits.fits) agrees) up_told

-- ---- the groups of a packet

-- each pair's encoding is read
abbrev pub HopsFit : Bool → List Pair → Type 0
HopsFit via_v6 pairs = AllByRecursion (λ pair. HopFits via_v6 pair.0 pair.1) pairs

pub groups_told : (context : Context) (at : ℕ) (earlier pairs : List Pair) → AllByRecursion IsPair pairs → HopsFit context.via_v6 pairs → Agrees context (written_after earlier)
    → (behind : Context) × Tells context at (groups_behind earlier pairs) (map pair_event pairs) behind
groups_told context at earlier [] fits hops agrees = (context, Tells-none context at)
groups_told context at earlier (pair ∷ pairs) fits hops agrees =
    let octets = group earlier pair in
    let next = context_with pair context in
    let first = subst (λ (o : List ℕ). Tells context at o (pair_event pair ∷ []) next) (group_in-written_after earlier pair)
    (group_told context at (written_after earlier) pair fits.0 hops.0 agrees) in
    let next_hops = subst (λ (b : Bool). HopsFit b pairs) (sym (via_held (hop_family (pair_encoding pair)) pair.1 context)) hops.1 in
    let later = groups_told next (at + length octets) (pair ∷ earlier) pairs fits.1 next_hops (Agrees-after context earlier pair agrees) in
    (later.0, Tells-append context next later.0 at octets (groups_behind (pair ∷ earlier) pairs) (pair_event pair ∷ []) (map pair_event pairs) first later.1)
