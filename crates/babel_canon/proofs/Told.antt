-- What a dump with a table tells is what its TLVs say, where nothing stands for what is ignored.
use Rattle.std.proofs.Common.{◌≡◌, ℕ, Bool, true, false, cond, ◌||◌, List, [], ◌∷◌, ◌++◌, map, Option, Some, None, Result, Ok, Err, refl, sym, ap, subst, ◌∙◌}
use Rattle.std.specs.Prelude.{IsFalse}
use Rattle.std.specs.List.{AllByRecursion, list_any}
use Rattle.std.proofs.lemmas.List.{map-append}
use Rattle.babel_prefix.specs.Address.{Address}
use Rattle.babel_tlv.specs.declared.event.Event.{Event}
use Rattle.babel_tlv.specs.declared.event.Event.TheVariants as events
use Rattle.babel_tlv.specs.declared.fault.Fault.{Fault}
use Rattle.babel_tlv.specs.declared.fault.Fault.TheVariants as faults
use Rattle.babel_tlv.specs.declared.mode.Mode.{Mode}
use Rattle.babel_tlv.specs.declared.reason.Reason.{Reason}
use Rattle.babel_tlv.specs.declared.start.Start.{Start}
use Rattle.babel_tlv.specs.Context.{Context, context_after, first_context, updated}
use Rattle.babel_tlv.specs.Framing.{TlvAt, ReadsAs}
use Rattle.babel_tlv.specs.Route.{RouteKey, Announcement, is_reserved}
use Rattle.babel_tlv.specs.Says.{ignored_for, refuses, route_tells, said, sayings, sayings_after, tells, told, told_by, unless_ignored}
use Rattle.babel_tlv.proofs.HopsFit.{via_after}
use Rattle.babel_tlv.proofs.Telling.{as_ok, says_in, what_of, sayings_after-says_in}
use Rattle.babel_tlv.proofs.TellsLaws.{ignored_tells_nothing, tells-holds}
use Rattle.babel_table.specs.Bounds.{Bounds, start_of}
use Rattle.babel_table.specs.Rows.{Routes}
use Rattle.babel_table.specs.TableOf.{IsTableOf}
use Rattle.babel_table.proofs.ReadingLaws.{framed_one}
use Rattle.babel_canon.proofs.NoFault.{AreFine-said}

-- ---- events without reasons

-- an event of which nothing is left where the TLV is ignored
abbrev pub quiet : Event → Event
quiet (events.Ignored reason) = events.Nothing
quiet (events.Announce key ann) = events.Announce key ann
quiet (events.Retract key) = events.Retract key
quiet events.RetractAll = events.RetractAll
quiet events.Nothing = events.Nothing

abbrev pub quiet_of : Result Event Fault → Event
quiet_of (Ok event) = quiet event
quiet_of (Err fault) = events.Nothing

abbrev IsQuiet : Event → Type 0
IsQuiet event = quiet event ≡ event

-- what holds of nothing and of each announcement of a key holds of what is told of a route
pub route_holds : (Holds : Event → Type 0) (key : RouteKey) (body : List ℕ) (id : Option (List ℕ)) (hop : Option Address)
    → Holds events.Nothing → ((ann : Announcement) → Holds (events.Announce key ann)) → Holds (route_tells key body id hop)
route_holds Holds key body None hop nothing each = nothing
route_holds Holds key body (Some id) None nothing each = nothing
route_holds Holds key body (Some id) (Some hop) nothing each = by (is_reserved id) _ (each _)
  where
    by : (reserved : Bool) (ann : Announcement) → Holds (events.Announce key ann) → Holds (cond reserved events.Nothing (events.Announce key ann))
    by true ann holds = nothing
    by false ann holds = holds

tells_quiet : (context : Context) (tlv : TlvAt) → IsQuiet (tells context tlv)
tells_quiet context =
    tells-holds IsQuiet context refl refl (λ encoding body key told. refl) (λ encoding body key told id hop is. route_holds IsQuiet key body id hop refl (λ ann. refl))

-- what a TLV tells is what it says, without the reasons
tells-said : (context : Context) (tlv : TlvAt) → tells context tlv ≡ quiet_of (said context tlv)
tells-said context tlv = by (refuses context.via_v6 tlv) refl (ignored_for context tlv) refl
  where
    by : (refused : Bool) → refuses context.via_v6 tlv ≡ refused → (reason : Option Reason) → ignored_for context tlv ≡ reason
        → tells context tlv ≡ quiet_of (cond refused (Err (faults.EncodingSetsRouterId tlv.at)) (Ok (unless_ignored reason (tells context tlv))))
    by true refused reason is = (ignored_tells_nothing context tlv).1 refused
    by false read (Some reason) is = (ignored_tells_nothing context tlv).0 reason is
    by false read None is = sym (tells_quiet context tlv)

-- ---- packets and dumps

told_by-says_in : (context : Context) (tlvs : List TlvAt) → told_by context tlvs ≡ map quiet_of (says_in context tlvs)
told_by-says_in context [] = refl
told_by-says_in context (tlv ∷ tlvs) =
    ap (λ (e : Event). e ∷ told_by (updated context tlv) tlvs) (tells-said context tlv)
    ∙ ap (λ (es : List Event). quiet_of (said context tlv) ∷ es) (told_by-says_in (updated context tlv) tlvs)

-- what a dump tells is what its TLVs say, without the reasons
told-sayings : (start : Start) (packets : List (List TlvAt)) → told start packets ≡ map quiet_of (map what_of (sayings start packets))
told-sayings start [] = refl
told-sayings start (tlvs ∷ packets) =
    let here = sayings_after start [] tlvs in
    ap (λ (es : List Event). es ++ told start packets)
    (told_by-says_in (first_context start) tlvs ∙ ap (map quiet_of) (sym (sayings_after-says_in start [] tlvs)))
    ∙ ap (λ (es : List Event). map quiet_of (map what_of here) ++ es) (told-sayings start packets)
    ∙ sym (ap (map quiet_of) (map-append what_of here (sayings start packets)) ∙ map-append quiet_of (map what_of here) (map what_of (sayings start packets)))

-- ---- a dump that has a table

abbrev IsOk : Result Event Fault → Type 0
IsOk (Ok event) = Unit {0}
IsOk (Err fault) = ⊥

-- a TLV that says an event does not refuse the dump
said-read : (context : Context) (tlv : TlvAt) → IsOk (said context tlv) → IsFalse (refuses context.via_v6 tlv)
said-read context tlv = by (refuses context.via_v6 tlv) (faults.EncodingSetsRouterId tlv.at) (unless_ignored (ignored_for context tlv) (tells context tlv))
  where
    by : (refused : Bool) (fault : Fault) (event : Event) → IsOk (cond refused (Err fault) (Ok event)) → IsFalse refused
    by true fault event ok = absurd ok
    by false fault event ok = refl

both_ok : (start : Start) (earlier tlvs : List TlvAt) (later : List (Result Event Fault)) → AllByRecursion IsOk (map what_of (sayings_after start earlier tlvs) ++ later)
    → IsFalse (list_any (refuses start.via_v6) tlvs) × AllByRecursion IsOk later
both_ok start earlier [] later ok = (refl, ok)
both_ok start earlier (tlv ∷ tlvs) later ok =
    let rest = both_ok start (tlv ∷ earlier) tlvs later ok.1 in
    let read : IsFalse (refuses start.via_v6 tlv) = subst (λ (b : Bool). IsFalse (refuses b tlv)) (via_after start earlier) (said-read (context_after start earlier) tlv ok.0) in
    (ap (λ (b : Bool). b || list_any (refuses start.via_v6) tlvs) read ∙ rest.0, rest.1)

none_refuse : (start : Start) (packets : List (List TlvAt)) → AllByRecursion IsOk (map what_of (sayings start packets)) → IsFalse (list_any (list_any (refuses start.via_v6)) packets)
none_refuse start [] ok = refl
none_refuse start (tlvs ∷ packets) ok =
    let both = both_ok start [] tlvs (map what_of (sayings start packets)) (subst (AllByRecursion IsOk) (map-append what_of (sayings_after start [] tlvs) (sayings start packets)) ok) in
    ap (λ (b : Bool). b || list_any (list_any (refuses start.via_v6)) packets) both.0 ∙ none_refuse start packets both.1

events_ok : (said : List Event) → AllByRecursion IsOk (map as_ok said)
events_ok [] = tt
events_ok (event ∷ said) = (tt, events_ok said)

quiet_oks : (said : List Event) → map quiet_of (map as_ok said) ≡ map quiet said
quiet_oks [] = refl
quiet_oks (event ∷ said) = ap (λ (es : List Event). quiet event ∷ es) (quiet_oks said)

module _ (limits : Bounds) (mode : Mode) (sender : Address) (dump : List ℕ) (table : Routes) (is_table : IsTableOf limits mode sender dump table) where
  -- none of its TLVs refuses a dump with a table
  pub table-refuses : IsFalse (list_any (list_any (refuses limits.via_v6)) is_table.packets)
  table-refuses =
      let said = AreFine-said mode limits.entries [] (sayings (start_of limits sender) is_table.packets) is_table.said is_table.fine in
      none_refuse (start_of limits sender) is_table.packets (subst (AllByRecursion IsOk) (sym said.whats) (events_ok said.told))

  -- and it tells the events of its table, without the reasons
  pub told-table : told (start_of limits sender) is_table.packets ≡ map quiet is_table.said
  told-table =
      let said = AreFine-said mode limits.entries [] (sayings (start_of limits sender) is_table.packets) is_table.said is_table.fine in
      told-sayings (start_of limits sender) is_table.packets ∙ ap (map quiet_of) said.whats ∙ quiet_oks said.told ∙ ap (map quiet) (sym said.parts)

  -- so does any reading of it
  pub told-dump : (packets : List (List TlvAt)) → ReadsAs dump packets [] → told (start_of limits sender) packets ≡ map quiet is_table.said
  told-dump packets reads = ap (told (start_of limits sender)) (framed_one dump packets is_table.packets reads is_table.reads) ∙ told-table
