-- What holds of every pair (RFC 8966, 2.8; RFC 9079, 3.2), and the order of what is held, which is
-- this project's own.
use Rattle.std.specs.Prelude.{◌≡◌, ◌⊎◌, Bool, true}
use Rattle.std.specs.declared.cmp.Ordering.{Ordering}
use Rattle.std.specs.declared.cmp.Ordering.TheVariants.{Less, Equal, Greater}
use Rattle.babel_prefix.specs.declared.family.Family.{Family}
use Rattle.babel_prefix.specs.declared.family.Family.TheVariants.{V4, V6}
use Rattle.babel_prefix.specs.Covers.{IsAddressPrefix}
use Rattle.babel_tlv.specs.declared.held.Held.{Held}
use Rattle.babel_tlv.specs.declared.held.Held.TheVariants as helds
use Rattle.babel_tlv.specs.declared.event.Event.{Event}
use Rattle.babel_tlv.specs.declared.event.Event.TheVariants as events
use Rattle.babel_tlv.specs.Route.{RouteKey}
use Rattle.babel_tlv.specs.Keys.{AreOfOneFamily, IsAnnouncement, announcement_cmp}
use Rattle.babel_tlv.specs.Pair.{Pair}

-- routes first, by what they announce; then unreachable
abbrev pub held_cmp : Held → Held → Ordering
held_cmp (helds.Route a) (helds.Route b) = announcement_cmp a b
held_cmp (helds.Route a) helds.Unreachable = Less
held_cmp helds.Unreachable (helds.Route b) = Greater
held_cmp helds.Unreachable helds.Unreachable = Equal

-- a next hop's family for a key's family: the same; or, where that is read (RFC 9229, 2), IPv6 for
-- IPv4
abbrev pub IsHopFor : Bool → Family → Family → Type 0
IsHopFor via_v6 family hop = (hop ≡ family) ⊎ ((via_v6 ≡ true) × (family ≡ V4) × (hop ≡ V6))

-- an announcement with such a next hop, or unreachable
abbrev pub FitsKey : RouteKey → Held → Type 0
FitsKey key (helds.Route ann) =
    IsAnnouncement ann × IsHopFor true key.dst.address.family ann.next_hop.family
FitsKey key helds.Unreachable = Unit {0}

-- a route's next hop is of the key's family, or what is read beside it
abbrev pub HopFits : Bool → RouteKey → Held → Type 0
HopFits via_v6 key (helds.Route ann) =
    IsHopFor via_v6 key.dst.address.family ann.next_hop.family
HopFits via_v6 key helds.Unreachable = Unit {0}

-- two prefixes of one family, and what fits them
pub record IsPair (pair : Pair) : Type 0 where
  pub dst : IsAddressPrefix pair.0.dst
  pub src : IsAddressPrefix pair.0.src
  pub one_family : AreOfOneFamily pair.0
  pub fits : FitsKey pair.0 pair.1

-- what a TLV announces or retracts is a pair: a key, and a next hop that fits it or none
abbrev pub EventFits : Event → Type 0
EventFits (events.Announce key ann) = IsPair (key, helds.Route ann)
EventFits (events.Retract key) = IsPair (key, helds.Unreachable)
EventFits event = Unit {0}

-- what a TLV announces has a next hop of its key's family, or what is read beside it
abbrev pub EventHopFits : Bool → Event → Type 0
EventHopFits via_v6 (events.Announce key ann) =
    IsHopFor via_v6 key.dst.address.family ann.next_hop.family
EventHopFits via_v6 event = Unit {0}
