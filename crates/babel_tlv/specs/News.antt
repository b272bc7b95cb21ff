-- What the events of a dump tell, apart from those that say nothing: RFC 8966, 2.8, 4.6.
use Rattle.std.specs.Prelude.{List, [], ◌∷◌}
use Rattle.babel_tlv.specs.declared.event.Event.{Event}
use Rattle.babel_tlv.specs.declared.event.Event.TheVariants as events
use Rattle.babel_tlv.specs.declared.held.Held.{Held}
use Rattle.babel_tlv.specs.declared.held.Held.TheVariants as helds
use Rattle.babel_tlv.specs.Route.{RouteKey}
use Rattle.babel_tlv.specs.Pair.{Pair}

-- the events but those that say nothing
abbrev pub spoken : List Event → List Event
spoken [] = []
spoken (events.Announce key ann ∷ later) = events.Announce key ann ∷ spoken later
spoken (events.Retract key ∷ later) = events.Retract key ∷ spoken later
spoken (events.RetractAll ∷ later) = events.RetractAll ∷ spoken later
spoken (events.Nothing ∷ later) = spoken later
spoken (events.Ignored reason ∷ later) = events.Ignored reason ∷ spoken later

-- a route is announced, and an unreachable key is retracted
abbrev pub held_event : RouteKey → Held → Event
held_event key (helds.Route ann) = events.Announce key ann
held_event key helds.Unreachable = events.Retract key

-- what a pair's Update says
abbrev pub pair_event : Pair → Event
pair_event pair = held_event pair.0 pair.1
