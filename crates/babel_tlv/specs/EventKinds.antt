-- The event that a kind of event and a route are: RFC 8966, 4.6.
use Rattle.std.specs.Prelude.{Result, Ok, Err}
use Rattle.babel_tlv.specs.declared.event.Event.{Event}
use Rattle.babel_tlv.specs.declared.event.Event.TheVariants as events
use Rattle.babel_tlv.specs.declared.fault.Fault.{Fault}
use Rattle.babel_tlv.specs.declared.route.Route.{Route}
use Rattle.babel_tlv.specs.declared.event_kind.EventKind.{EventKind}
use Rattle.babel_tlv.specs.declared.event_kind.EventKind.TheVariants as kinds

-- the event of this kind, of a route
abbrev pub event_of : EventKind → Route → Event
event_of kinds.Announce route = events.Announce route.key route.ann
event_of kinds.Retract route = events.Retract route.key
event_of kinds.RetractAll route = events.RetractAll
event_of kinds.Nothing route = events.Nothing
event_of (kinds.Ignored reason) route = events.Ignored reason

-- the event, or why the dump is refused
abbrev pub saying_of : Result EventKind Fault → Route → Result Event Fault
saying_of (Ok kind) route = Ok (event_of kind route)
saying_of (Err fault) route = Err fault
