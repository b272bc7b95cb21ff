-- Of which keys `select` tells, and the lines that it writes: this project's own.
use Rattle.std.specs.Prelude.{ℕ, ◌≡◌, Bool, true, false, if◌then◌else◌, List, [], map}
use Rattle.std.specs.Prelude.{Option, None, Some}
use Rattle.std.specs.List.{AllByRecursion, filter, flat_map}
use Rattle.std.specs.List.Sorted.{IsPermutation, IsSorted}
use Rattle.std.specs.Option.{unwrap_or}
use Rattle.babel_capture.specs.Gathering.{Gathering}
use Rattle.babel_capture.specs.declared.tallies.Origin.{Origin}
use Rattle.babel_tlv.specs.Route.{RouteKey}
use Rattle.babel_selection.specs.Announcing.{AreDistances}
use Rattle.babel_selection.specs.Offers.{chosen_rows, offer_cmp}
use Rattle.babel_selection.specs.ToldKeys.{best_used, contains_both, is_told}
use Rattle.babel_selection.specs.declared.distance.Distance.{Distance}
use Rattle.babel_selection.specs.declared.offer.Offer.{Offer}
use Rattle.babel_selection.specs.declared.offers.ChosenRoute.{ChosenRoute}
use Rattle.babel_selection.specs.declared.selection.RouteState.{RouteState}
use Rattle.babel_selection.specs.declared.selection.RouteState.TheVariants as states
use Rattle.babel_selection.specs.declared.source.Source.{Source}
use Rattle.babel_selection.specs.declared.told_keys.UsedKey.{UsedKey}
use Rattle.babel_dump.specs.Filter.{keeps_key}
use Rattle.babel_dump.specs.Ignored.{IgnoresNone}
use Rattle.babel_dump.specs.LinksHeard.{ihus_made}
use Rattle.babel_dump.specs.SelectHeard.{updates_made}
use Rattle.babel_dump.specs.SelectOffers.{beside_it, offers_from, said_at}
use Rattle.babel_dump.specs.SelectText.{chosen_in}
use Rattle.babel_dump.specs.Speakers.{speaker_cmp}
use Rattle.babel_dump.specs.ToldOrigins.{AreAllRead, OwnRoutes}
use Rattle.babel_dump.specs.ToldPairs.{Heard}
use Rattle.babel_dump.specs.declared.addr_pair.AddrPair.{AddrPair}
use Rattle.babel_dump.specs.declared.filter.Filter.{Filter}
use Rattle.babel_dump.specs.declared.format.Format.{Format}
use Rattle.babel_dump.specs.declared.select_job.Select.{Select}
use Rattle.babel_dump.specs.declared.speaker.Speaker.{Speaker}
use Rattle.babel_dump.specs.declared.told_routes.ToldRoutes.{ToldRoutes}

-- ---- which keys are told

-- the router uses the route: one of its own, or one that it selects
abbrev pub is_used : Option RouteState → Bool
is_used None = true
is_used (Some states.Selected) = true
is_used state = false

abbrev pub used_key : ChosenRoute Speaker → UsedKey
used_key route = record { key = route.offer.key; is_used = is_used route.state }

-- the keys that match two addresses, and of each route whether it is used
abbrev pub used_keys : AddrPair → List (ChosenRoute Speaker) → List UsedKey
used_keys pair routes =
    map used_key (filter (λ r. contains_both pair.dst pair.src r.offer.key) routes)

-- the best match of the keys of which a route is used
abbrev pub best_for : Option AddrPair → List (ChosenRoute Speaker) → Option RouteKey
best_for None routes = None
best_for (Some pair) routes = best_used pair.dst pair.src (used_keys pair routes)

abbrev pub told_routes : Filter → Option AddrPair → List (ChosenRoute Speaker) → ToldRoutes
told_routes filter pair routes =
    record { filter = filter; pair = pair; best = best_for pair routes }

-- a key is told: where two addresses are asked for, by the best match, and else by the filter
abbrev pub is_told_by : Option AddrPair → Filter → Option RouteKey → RouteKey → Bool
is_told_by None filter best key = keeps_key filter key
is_told_by (Some pair) filter best key = is_told pair.dst pair.src best key

abbrev pub keeps_told : ToldRoutes → RouteKey → Bool
keeps_told told key = is_told_by told.pair told.filter told.best key

-- 1 where two addresses are asked for, and no route is used for them
abbrev pub told_status : Option AddrPair → Option RouteKey → ℕ
told_status (Some pair) None = 1
told_status pair best = 0

-- ---- what is written

-- the line of a route, if its key is told
abbrev pub route_line : Format → Gathering → ToldRoutes → ChosenRoute Speaker → List ℕ
route_line format gathering told route =
    if keeps_told told route.offer.key then chosen_in format gathering route else []

-- What is told of a router that selects: each sender at a place where it sends has its own table at
-- the moment, with no ignored TLV if it is read strictly; each row of these is a route, with
-- what its link costs by the last IHUs; these are put in order, and told with what each is to the
-- router, whose own Updates are its source table.
pub record TellsSelection (select : Select) (heard : Heard) (senders : List Origin)
    (text : List ℕ) (status : ℕ) : Type 0 where
  pub found : List OwnRoutes
  pub are_read : AreAllRead select.each heard
      (beside_it select heard.gathering.senders senders) found
  pub strict : select.strict ≡ true → AllByRecursion (λ one. IgnoresNone one.table.report) found
  pub offers : List (Offer Speaker)
  pub are_offers : IsPermutation (flat_map (offers_from select
      (said_at select.expiry (unwrap_or heard.moment 0) (ihus_made heard.made))
      heard.gathering.senders) found) offers
  pub in_order : IsSorted (offer_cmp speaker_cmp) offers
  pub sources : List (Source × Distance)
  pub are_sources : AreDistances (updates_made select heard.made) sources
  pub text_is : let routes = chosen_rows (unwrap_or heard.moment 0) sources offers in
      text ≡ flat_map (route_line select.each.format heard.gathering
      (told_routes select.filter select.pair routes)) routes
  pub status_is : let routes = chosen_rows (unwrap_or heard.moment 0) sources offers in
      status ≡ told_status select.pair (best_for select.pair routes)
