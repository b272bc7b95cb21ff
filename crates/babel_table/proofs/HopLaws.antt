-- Each route of a table has a next hop that fits its key, as what was said of it does.
use Rattle.std.proofs.Common.{◌≡◌, ℕ, suc, Bool, true, false, cond, List, [], ◌∷◌, ◌++◌, Option, Some, None, refl, sym, subst, arith}
use Rattle.std.specs.Prelude.{Result, IfOk, IfSome, fold}
use Rattle.std.specs.List.{AllByRecursion, Contains}
use Rattle.babel_tlv.specs.declared.event.Event.{Event}
use Rattle.babel_tlv.specs.declared.event.Event.TheVariants as events
use Rattle.babel_tlv.specs.declared.fault.Fault.{Fault}
use Rattle.babel_tlv.specs.declared.held.Held.{Held}
use Rattle.babel_tlv.specs.declared.held.Held.TheVariants as helds
use Rattle.babel_tlv.specs.declared.mode.Mode.{Mode}
use Rattle.babel_tlv.specs.declared.mode.Mode.TheVariants as modes
use Rattle.babel_tlv.specs.declared.start.Start.{Start}
use Rattle.babel_tlv.specs.Framing.{TlvAt}
use Rattle.babel_tlv.specs.Pair.{Pair}
use Rattle.babel_tlv.specs.Pairs.{EventHopFits, HopFits}
use Rattle.babel_tlv.specs.Route.{RouteKey}
use Rattle.babel_tlv.specs.Says.{Saying, sayings, sayings_after}
use Rattle.babel_tlv.proofs.HopsFit.{said_after-fits}
use Rattle.babel_table.specs.Bounds.{start_of}
use Rattle.babel_table.specs.Holds.{same_key, retracted, held_after, Holds}
use Rattle.babel_table.specs.OneOutcome.{HopsFit}
use Rattle.babel_table.specs.TableOf.{AreFine}
use Rattle.babel_table.proofs.HoldsLaws.{same_key-decides}

all_append : {A : Type 0} (P : A → Type 0) (xs ys : List A) → AllByRecursion P xs → AllByRecursion P ys → AllByRecursion P (xs ++ ys)
all_append P [] ys left right = right
all_append P (x ∷ xs) ys left right = (left.0, all_append P xs ys left.1 right)

all_of : {A : Type 0} (P : A → Type 0) (xs : List A) → ((x : A) → Contains xs x → P x) → AllByRecursion P xs
all_of P [] each = tt
all_of P (x ∷ xs) each = (each x (0, omega arith, refl), all_of P xs (λ y c. each y (suc c.0, omega (arith, c.1), c.2)))

-- ---- what is said

abbrev SaysFit : Bool → Saying → Type 0
SaysFit via_v6 saying = IfOk saying.what (EventHopFits via_v6)

packet_fits : (start : Start) (earlier tlvs : List TlvAt) → AllByRecursion (SaysFit start.via_v6) (sayings_after start earlier tlvs)
packet_fits start earlier [] = tt
packet_fits start earlier (tlv ∷ tlvs) = (said_after-fits start earlier tlv, packet_fits start (tlv ∷ earlier) tlvs)

packets_fit : (start : Start) (packets : List (List TlvAt)) → AllByRecursion (SaysFit start.via_v6) (sayings start packets)
packets_fit start [] = tt
packets_fit start (packet ∷ packets) =
    all_append (SaysFit start.via_v6) (sayings_after start [] packet) (sayings start packets) (packet_fits start [] packet) (packets_fit start packets)

fine_fits : (via_v6 : Bool) (mode : Mode) (entries : ℕ) (before : List Event) (sayings : List Saying) (said : List Event) → AreFine mode entries before sayings said
    → AllByRecursion (EventHopFits via_v6) before → AllByRecursion (SaysFit via_v6) sayings → AllByRecursion (EventHopFits via_v6) said
fine_fits via_v6 mode entries before [] said fine fits all = subst (λ (es : List Event). AllByRecursion (EventHopFits via_v6) es) (sym fine) fits
fine_fits via_v6 mode entries before (saying ∷ later) said (event, is, few, fine) fits all =
    let here : EventHopFits via_v6 event = subst (λ (r : Result Event Fault). IfOk r (EventHopFits via_v6)) is all.0 in
    fine_fits via_v6 mode entries (before ++ event ∷ []) later said fine (all_append (EventHopFits via_v6) before (event ∷ []) fits (here, tt)) all.1

-- ---- what is held

left_fits : (via_v6 : Bool) (key : RouteKey) (mode : Mode) (b : Bool) (old : Option Held) → IfSome old (HopFits via_v6 key) → IfSome (cond b (retracted mode) old) (HopFits via_v6 key)
left_fits via_v6 key modes.Plain true old before = tt
left_fits via_v6 key modes.Hold true old before = tt
left_fits via_v6 key mode false old before = before

after_fits : (via_v6 : Bool) (mode : Mode) (key : RouteKey) (old : Option Held) (event : Event) → EventHopFits via_v6 event → IfSome old (HopFits via_v6 key)
    → IfSome (held_after mode key old event) (HopFits via_v6 key)
after_fits via_v6 mode key old (events.Announce other ann) fits before = by (same_key other key) refl
  where
    by : (b : Bool) → same_key other key ≡ b → IfSome (cond b (Some (helds.Route ann)) old) (HopFits via_v6 key)
    by true is = subst (λ (k : RouteKey). HopFits via_v6 k (helds.Route ann)) ((same_key-decides other key).0 is) fits
    by false is = before
after_fits via_v6 mode key old (events.Retract other) fits before = left_fits via_v6 key mode (same_key other key) old before
after_fits via_v6 mode key None events.RetractAll fits before = tt
after_fits via_v6 mode key (Some held) events.RetractAll fits before = left_fits via_v6 key mode true None tt
after_fits via_v6 mode key old events.Nothing fits before = before
after_fits via_v6 mode key old (events.Ignored reason) fits before = before

fold_fits : (via_v6 : Bool) (mode : Mode) (key : RouteKey) (old : Option Held) (said : List Event) → AllByRecursion (EventHopFits via_v6) said → IfSome old (HopFits via_v6 key)
    → IfSome (fold (held_after mode key) old said) (HopFits via_v6 key)
fold_fits via_v6 mode key old [] fits before = before
fold_fits via_v6 mode key old (event ∷ later) fits before = fold_fits via_v6 mode key (held_after mode key old event) later fits.1 (after_fits via_v6 mode key old event fits.0 before)

held_fits : (via_v6 : Bool) (mode : Mode) (said : List Event) (key : RouteKey) (held : Held) → AllByRecursion (EventHopFits via_v6) said → Holds mode said key held → HopFits via_v6 key held
held_fits via_v6 mode said key held fits holds = subst (λ (o : Option Held). IfSome o (HopFits via_v6 key)) holds (fold_fits via_v6 mode key None said fits tt)

pub hops_fit : HopsFit
hops_fit limits mode sender dump table is =
    let start : Start = start_of limits sender in
    let said = fine_fits limits.via_v6 mode limits.entries [] (sayings start is.packets) is.said is.fine tt (packets_fit start is.packets) in
    all_of (λ (row : Pair). HopFits limits.via_v6 row.0 row.1) table.rows (λ row c. held_fits limits.via_v6 mode is.said row.0 row.1 said (is.rows.held row.0 row.1 c))
