-- The routes that senders announce at a moment, as a router has them that selects: RFC 8966, 3.2.6.
-- Which senders these are is this project's own.
use Rattle.std.specs.Prelude.{ℕ, Bool, min, if◌then◌else◌, List, fold}
use Rattle.std.specs.Prelude.{Option, None, Some, true}
use Rattle.std.specs.List.{filter, filter_map, list_any}
use Rattle.std.specs.Option.{is_some, option_and_then, unwrap_or}
use Rattle.std.specs.Ordering.{is_eq}
use Rattle.babel_prefix.specs.Address.{Address}
use Rattle.babel_prefix.specs.Order.{address_cmp}
use Rattle.babel_capture.specs.Tallies.{Senders, tally_of}
use Rattle.babel_capture.specs.declared.place.Place.{Place}
use Rattle.babel_capture.specs.declared.tallies.Origin.{Origin}
use Rattle.babel_tlv.specs.Pair.{Pair}
use Rattle.babel_tlv.specs.declared.held.Held.TheVariants as helds
use Rattle.babel_selection.specs.Links.{infinite, last_ihu, link_cost, rxcost_at}
use Rattle.babel_selection.specs.Offers.{offer_of, own_offer}
use Rattle.babel_selection.specs.declared.ihu_from.IhuFrom.{IhuFrom}
use Rattle.babel_selection.specs.declared.offer.Offer.{Offer}
use Rattle.babel_dump.specs.EventsRun.{speaker_at}
use Rattle.babel_dump.specs.Nodes.{node_cmp, node_of}
use Rattle.babel_dump.specs.SelectHeard.{is_router}
use Rattle.babel_dump.specs.ToldOrigins.{OwnRoutes}
use Rattle.babel_dump.specs.declared.node.Node.{Node}
use Rattle.babel_dump.specs.declared.select_job.Select.{Select}
use Rattle.babel_dump.specs.declared.select_job.StatedCost.{StatedCost}
use Rattle.babel_dump.specs.declared.speaker.Speaker.{Speaker}

-- ---- where the router sends

abbrev pub sends_from : Senders → Place → Address → Bool
sends_from senders place address =
    is_some (tally_of senders (record { place = place; sender = address }))

-- one of its addresses sends at the place
abbrev pub is_at : (routers : List Address) → Senders → Place → Bool
is_at routers senders place = list_any (sends_from senders place) routers

-- ---- what links cost

-- the last cost that is stated of the link to a sender
abbrev pub stated_cost : List StatedCost → Address → Option ℕ
stated_cost costs sender =
    fold (λ last one. if is_eq (address_cmp one.sender sender) then Some one.cost else last) None
    costs

-- what the last IHU of a router for a neighbour says, unless it has lapsed at the moment
abbrev pub said_at : (factor moment : ℕ) → List (IhuFrom Node) → Node → Node → Option ℕ
said_at factor moment ihus router neighbour = option_and_then (rxcost_at factor moment)
    (last_ihu node_cmp ihus router neighbour true)

module _ (is_etx : Bool) (said : Node → Node → Option ℕ) (senders : Senders) (origin : Origin) where
  -- RFC 8966, 3.4.3: what the link to a sender costs the router, under one of its addresses there:
  -- by what the sender says of it, and what it says of the sender
  abbrev pub cost_under : (router : Address) → ℕ
  cost_under router =
      let own : Node = node_of (record { place = origin.place; sender = router }) in
      link_cost is_etx (said (node_of origin) own) (said own (node_of origin))

  -- the least under all that send there
  abbrev pub heard_cost : (routers : List Address) → ℕ
  heard_cost routers =
      fold (λ least router. if sends_from senders origin.place router
      then min least (cost_under router) else least) infinite routers

-- what is stated of it, or else what is said of it
abbrev pub cost_by : Select → (said : Node → Node → Option ℕ) → Senders → Origin → ℕ
cost_by select said senders origin = unwrap_or (stated_cost select.costs.items origin.sender)
    (heard_cost select.is_etx said senders origin select.routers.items)

-- ---- what senders announce

-- a row of a sender's table: the router's own, or another's, whose link costs so much
abbrev pub offered : (is_own : Bool) → (by : Speaker) → (cost : ℕ) → Pair → Option (Offer Speaker)
offered is_own by cost (key, helds.Route ann) =
    Some (if is_own then own_offer key ann by else offer_of key ann by cost)
offered is_own by cost (key, helds.Unreachable) = None

-- all rows of a sender
abbrev pub offers_from : Select → (said : Node → Node → Option ℕ) → Senders → OwnRoutes
    → List (Offer Speaker)
offers_from select said senders one = filter_map
    (offered (is_router select.routers.items one.origin.sender) (speaker_at one.origin)
    (cost_by select said senders one.origin)) one.table.rows

-- the senders at the places where the router sends
abbrev pub beside_it : Select → Senders → List Origin → List Origin
beside_it select senders origins =
    filter (λ origin. is_at select.routers.items senders origin.place) origins
