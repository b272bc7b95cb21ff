-- A route that a TLV announces has a next hop of its key's family, or, where that is read, of IPv6 for IPv4.
use Rattle.std.proofs.Common.{◌≡◌, ℕ, Bool, true, false, cond, List, [], ◌∷◌, Option, Some, None, Result, Ok, Err, refl, sym, subst}
use Rattle.std.specs.Prelude.{IfOk, IfSome, ◌==◌}
use Rattle.std.specs.Option.{option_or, option_and_then}
use Rattle.std.specs.Result.{result_ok}
use Rattle.babel_prefix.specs.declared.family.Family.{Family}
use Rattle.babel_prefix.specs.declared.family.Family.TheVariants.{V4, V6}
use Rattle.babel_prefix.specs.Width.{same_family}
use Rattle.babel_prefix.specs.Address.{Address}
use Rattle.babel_prefix.proofs.EntryLaws.{same_family-is}
use Rattle.babel_tlv.specs.declared.event.Event.{Event}
use Rattle.babel_tlv.specs.declared.event.Event.TheVariants as events
use Rattle.babel_tlv.specs.declared.fault.Fault.{Fault}
use Rattle.babel_tlv.specs.declared.fault.Fault.TheVariants as faults
use Rattle.babel_tlv.specs.declared.reason.Reason.{Reason}
use Rattle.babel_tlv.specs.declared.start.Start.{Start}
use Rattle.babel_tlv.specs.Context.{Context, context_after, given_next_hop, of_family}
use Rattle.babel_tlv.specs.Encodings.{hop_family, prefix_family}
use Rattle.babel_tlv.specs.Forming.{next_hop_in, update_encoding}
use Rattle.babel_tlv.specs.Framing.{TlvAt}
use Rattle.babel_tlv.specs.Kept.{kept_for}
use Rattle.babel_tlv.specs.Pairs.{EventHopFits, IsHopFor}
use Rattle.babel_tlv.specs.Route.{Announcement, RouteKey, is_reserved}
use Rattle.babel_tlv.specs.Says.{ignored_for, refuses, route_tells, said, tells, unless_ignored}
use Rattle.babel_tlv.proofs.EncodingLaws.{hop_for, named}
use Rattle.babel_tlv.proofs.TellsLaws.{tells-holds, told_key-is}

-- ---- the next hops of a context

abbrev IsOf : Family → Option Address → Type 0
IsOf family a = IfSome a (λ hop. hop.family ≡ family)

of_family-is : (family : Family) (a : Address) → IsOf family (of_family family a)
of_family-is family a = by (same_family a.family family) refl
  where
    by : (same : Bool) → same_family a.family family ≡ same → IsOf family (cond same (Some a) None)
    by true is = same_family-is a.family family is
    by false is = tt

given_is : (family : Family) (tlv : TlvAt) → IsOf family (given_next_hop family tlv)
given_is family tlv = by (tlv.kind == 7) (next_hop_in tlv.body)
  where
    by : (here : Bool) (found : Result Address Reason) → IsOf family (cond here (option_and_then (of_family family) (result_ok found)) None)
    by true (Ok a) = of_family-is family a
    by true (Err reason) = tt
    by false found = tt

of_either : (family : Family) (a b : Option Address) → IsOf family a → IsOf family b → IsOf family (option_or a b)
of_either family None b is other = other
of_either family (Some a) b is other = is

hops_are : (start : Start) (earlier : List TlvAt) (family : Family) → IsOf family (kept_for family (context_after start earlier).next_hops)
hops_are start [] V4 = of_family-is V4 start.sender
hops_are start [] V6 = of_family-is V6 start.sender
hops_are start (tlv ∷ earlier) V4 = of_either V4 (given_next_hop V4 tlv) _ (given_is V4 tlv) (hops_are start earlier V4)
hops_are start (tlv ∷ earlier) V6 = of_either V6 (given_next_hop V6 tlv) _ (given_is V6 tlv) (hops_are start earlier V6)

-- whether encoding 4 is read stays as it is in a packet
pub via_after : (start : Start) (earlier : List TlvAt) → (context_after start earlier).via_v6 ≡ start.via_v6
via_after start [] = refl
via_after start (tlv ∷ earlier) = via_after start earlier

-- ---- what a TLV says

route_fits : (via_v6 : Bool) (family : Family) (key : RouteKey) (body : List ℕ) (id : Option (List ℕ)) (hop : Option Address)
    → IsHopFor via_v6 key.dst.address.family family → IsOf family hop → EventHopFits via_v6 (route_tells key body id hop)
route_fits via_v6 family key body None hop fits is = tt
route_fits via_v6 family key body (Some id) None fits is = tt
route_fits via_v6 family key body (Some id) (Some hop) fits is = by (is_reserved id) _ (subst (λ (f : Family). IsHopFor via_v6 key.dst.address.family f) (sym is) fits)
  where
    by : (reserved : Bool) (ann : Announcement) → IsHopFor via_v6 key.dst.address.family ann.next_hop.family → EventHopFits via_v6 (cond reserved events.Nothing (events.Announce key ann))
    by true ann fits = tt
    by false ann fits = fits

tells_fits : (context : Context) → ((family : Family) → IsOf family (kept_for family context.next_hops)) → (tlv : TlvAt) → EventHopFits context.via_v6 (tells context tlv)
tells_fits context hops = tells-holds (EventHopFits context.via_v6) context tt tt (λ encoding body key told. tt) (λ encoding body key told id hop is.
    let family : key.dst.address.family ≡ prefix_family encoding = (told_key-is (λ p. p.address.family ≡ prefix_family encoding) context encoding body key (λ len octets. refl) refl told).0 in
    route_fits context.via_v6 (hop_family encoding) key body id hop
    (subst (λ (f : Family). IsHopFor context.via_v6 f (hop_family encoding)) (sym family) (hop_for context.via_v6 encoding (named context.via_v6 (update_encoding body) encoding told.is_read).1))
    (subst (IsOf (hop_family encoding)) (sym is) (hops (hop_family encoding))))

abbrev SaysFit : Bool → Result Event Fault → Type 0
SaysFit via_v6 said = IfOk said (EventHopFits via_v6)

-- what a TLV of a packet announces has a next hop that fits
pub said_after-fits : (start : Start) (earlier : List TlvAt) (tlv : TlvAt) → SaysFit start.via_v6 (said (context_after start earlier) tlv)
said_after-fits start earlier tlv =
    let context = context_after start earlier in
    by (refuses context.via_v6 tlv) (ignored_for context tlv) (tells context tlv)
    (subst (λ (b : Bool). EventHopFits b (tells context tlv)) (via_after start earlier) (tells_fits context (hops_are start earlier) tlv))
  where
    by : (refused : Bool) (reason : Option Reason) (event : Event) → EventHopFits start.via_v6 event
        → SaysFit start.via_v6 (cond refused (Err (faults.EncodingSetsRouterId tlv.at)) (Ok (unless_ignored reason event)))
    by true reason event fits = tt
    by false None event fits = fits
    by false (Some reason) event fits = tt
