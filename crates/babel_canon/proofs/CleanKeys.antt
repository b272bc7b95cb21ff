-- The prefixes of the keys that a dump tells of have zeros past their length.
use Rattle.std.proofs.Common.{◌≡◌, ℕ, ◌-◌, ◌%◌, ◌^◌, Bool, true, false, cond, List, [], ◌∷◌, ◌++◌, Option, Some, None, refl, subst}
use Rattle.std.specs.Prelude.{fold, is_none}
use Rattle.std.specs.List.{AllByRecursion}
use Rattle.std.proofs.Math.Nat.{mul-mod_left}
use Rattle.babel_prefix.specs.declared.family.Family.{Family}
use Rattle.babel_prefix.specs.declared.family.Family.TheVariants.{V4, V6}
use Rattle.babel_prefix.specs.Width.{width_of}
use Rattle.babel_prefix.specs.Block.{leading_bits}
use Rattle.babel_prefix.specs.Address.{Address, AddressPrefix, prefix_at, whole_family}
use Rattle.babel_tlv.specs.declared.event.Event.{Event}
use Rattle.babel_tlv.specs.declared.event.Event.TheVariants as events
use Rattle.babel_tlv.specs.declared.held.Held.{Held}
use Rattle.babel_tlv.specs.declared.held.Held.TheVariants as helds
use Rattle.babel_tlv.specs.declared.mode.Mode.{Mode}
use Rattle.babel_tlv.specs.declared.start.Start.{Start}
use Rattle.babel_tlv.specs.Context.{Context, first_context, updated}
use Rattle.babel_tlv.specs.Encodings.{prefix_family}
use Rattle.babel_tlv.specs.Framing.{TlvAt}
use Rattle.babel_tlv.specs.Route.{RouteKey}
use Rattle.babel_tlv.specs.Says.{tells, told, told_by}
use Rattle.babel_tlv.proofs.TellsLaws.{IsToldIn, tells-holds, told_key-is}
use Rattle.babel_table.specs.Holds.{same_key, retracted, held_after}
use Rattle.babel_table.proofs.HoldsLaws.{same_key-decides}
use Rattle.babel_canon.proofs.HeldFor.{held_for}
use Rattle.babel_canon.proofs.Told.{route_holds}

-- the bits past the length are zero
abbrev pub IsClean : AddressPrefix → Type 0
IsClean p = p.address.bits % 2 ^ (width_of p.address.family - p.len) ≡ 0

abbrev pub AreClean : RouteKey → Type 0
AreClean key = IsClean key.dst × IsClean key.src

-- the keys that an event names are clean
abbrev IsOfClean : Event → Type 0
IsOfClean (events.Announce key ann) = AreClean key
IsOfClean (events.Retract key) = AreClean key
IsOfClean event = Unit {0}

-- ---- what is told

prefix_at-clean : (len : ℕ) (a : Address) → IsClean (prefix_at len a)
prefix_at-clean len a = mul-mod_left (leading_bits (width_of a.family) len a.bits) (2 ^ (width_of a.family - len))

whole-clean : (family : Family) → IsClean (whole_family family)
whole-clean V4 = refl
whole-clean V6 = refl

tells-clean : (context : Context) (tlv : TlvAt) → IsOfClean (tells context tlv)
tells-clean context =
    let clean : (encoding : _) (body : List ℕ) (key : RouteKey) → IsToldIn context encoding body key → AreClean key = λ encoding body key told.
    told_key-is IsClean context encoding body key (λ len octets. prefix_at-clean len _) (whole-clean (prefix_family encoding)) told in
    tells-holds IsOfClean context tt tt clean (λ encoding body key told id hop is. route_holds IsOfClean key body id hop tt (λ ann. clean encoding body key told))

told_by-clean : (context : Context) (tlvs : List TlvAt)
    → AllByRecursion IsOfClean (told_by context tlvs)
told_by-clean context [] = tt
told_by-clean context (tlv ∷ tlvs) =
    (tells-clean context tlv, told_by-clean (updated context tlv) tlvs)

both_clean : (front back : List Event) → AllByRecursion IsOfClean front
    → AllByRecursion IsOfClean back → AllByRecursion IsOfClean (front ++ back)
both_clean [] back of of_back = of_back
both_clean (event ∷ front) back of of_back = (of.0, both_clean front back of.1 of_back)

told-clean : (start : Start) (packets : List (List TlvAt))
    → AllByRecursion IsOfClean (told start packets)
told-clean start [] = tt
told-clean start (tlvs ∷ packets) =
    both_clean (told_by (first_context start) tlvs) (told start packets)
    (told_by-clean (first_context start) tlvs) (told-clean start packets)

-- ---- what is held

abbrev IsCleanIfHeld : RouteKey → Option Held → Type 0
IsCleanIfHeld key None = Unit {0}
IsCleanIfHeld key (Some held) = AreClean key

named_by : (b : Bool) (key other : RouteKey) (new old : Option Held) → (b ≡ true → other ≡ key)
    → AreClean other → IsCleanIfHeld key old → IsCleanIfHeld key (cond b new old)
named_by false key other new old is clean before = before
named_by true key other None old is clean before = tt
named_by true key other (Some held) old is clean before = subst AreClean (is refl) clean

wiped_by : (key : RouteKey) (old left : Option Held) → IsCleanIfHeld key old
    → IsCleanIfHeld key (cond (is_none old) None left)
wiped_by key None left before = tt
wiped_by key (Some held) None before = tt
wiped_by key (Some held) (Some other) before = before

after-clean : (mode : Mode) (key : RouteKey) (old : Option Held) (event : Event) → IsOfClean event
    → IsCleanIfHeld key old → IsCleanIfHeld key (held_after mode key old event)
after-clean mode key old (events.Announce other ann) of before =
    named_by (same_key other key) key other (Some (helds.Route ann)) old
    (same_key-decides other key).0 of before
after-clean mode key old (events.Retract other) of before =
    named_by (same_key other key) key other (retracted mode) old
    (same_key-decides other key).0 of before
after-clean mode key old events.RetractAll of before = wiped_by key old (retracted mode) before
after-clean mode key old events.Nothing of before = before
after-clean mode key old (events.Ignored reason) of before = before

fold-clean : (mode : Mode) (key : RouteKey) (old : Option Held) (said : List Event)
    → AllByRecursion IsOfClean said → IsCleanIfHeld key old
    → IsCleanIfHeld key (fold (held_after mode key) old said)
fold-clean mode key old [] of before = before
fold-clean mode key old (event ∷ later) of before = fold-clean mode key
    (held_after mode key old event) later of.1 (after-clean mode key old event of.0 before)

-- a key for which a dump leaves something is clean
pub held-clean : (mode : Mode) (start : Start) (packets : List (List TlvAt)) (key : RouteKey)
    (held : Held) → held_for mode (told start packets) key ≡ Some held → AreClean key
held-clean mode start packets key held is = subst (IsCleanIfHeld key) is
    (fold-clean mode key None (told start packets) (told-clean start packets) tt)
