-- What links cost by what is kept of IHUs, and what becomes of what is offered: this project's own.
use Rattle.std.specs.Prelude.{◌≡◌, ℕ, List, [], ◌∷◌, ◌++◌, Option, None, Some, true}
use Rattle.std.specs.List.{AllByRecursion, flat_map}
use Rattle.std.specs.List.Sorted.{IsPermutation, IsSorted}
use Rattle.std.specs.Option.{option_and_then}
use Rattle.babel_capture.specs.declared.tallies.Origin.{Origin}
use Rattle.babel_selection.specs.Hearing.{LastIhus, last_kept}
use Rattle.babel_selection.specs.Links.{rxcost_at}
use Rattle.babel_selection.specs.Offers.{chosen_rows, offer_cmp}
use Rattle.babel_selection.specs.declared.distance.Distance.{Distance}
use Rattle.babel_selection.specs.declared.offer.Offer.{Offer}
use Rattle.babel_selection.specs.declared.offers.ChosenRoute.{ChosenRoute}
use Rattle.babel_selection.specs.declared.source.Source.{Source}
use Rattle.babel_dump.specs.Ignored.{IgnoresNone}
use Rattle.babel_dump.specs.Nodes.{node_cmp}
use Rattle.babel_dump.specs.SelectOffers.{beside_it, offers_from}
use Rattle.babel_dump.specs.Speakers.{speaker_cmp}
use Rattle.babel_dump.specs.ToldOrigins.{AreAllRead, OwnRoutes}
use Rattle.babel_dump.specs.ToldPairs.{Heard}
use Rattle.babel_dump.specs.declared.each_sender.EachSender.{EachSender}
use Rattle.babel_dump.specs.declared.link_costs.LinkCosts.{LinkCosts}
use Rattle.babel_dump.specs.declared.links.Judged.{Judged}
use Rattle.babel_dump.specs.declared.node.Node.{Node}
use Rattle.babel_dump.specs.declared.speaker.Speaker.{Speaker}

-- what the last IHU of a router for a neighbour says at the moment, by what is kept
abbrev pub said_kept : Judged → LastIhus Node → Node → Node → Option ℕ
said_kept judged ihus router neighbour = option_and_then (rxcost_at judged.factor judged.moment)
    (last_kept node_cmp ihus router neighbour true)

-- what there is, if there is something
abbrev pub list_of : {A : Type 0} → Option A → List A
list_of None = []
list_of (Some one) = one ∷ []

-- the rows of each sender at a place where the router sends are taken, by what is kept; where it is
-- read strictly no TLV of theirs was ignored
pub record OffersMore (costs : LinkCosts) (heard : Heard) (each : EachSender)
    (senders : List Origin) (before after : List (Offer Speaker)) : Type 0 where
  pub found : List OwnRoutes
  pub are_read :
      AreAllRead each heard (beside_it costs.select.now costs.gathered.now.senders senders) found
  pub strict : costs.select.now.strict ≡ true
      → AllByRecursion (λ one. IgnoresNone one.table.report) found
  pub takes : after ≡ before ++ flat_map (offers_from costs.select.now
      (said_kept costs.judged costs.links.now.ihus) costs.gathered.now.senders) found

-- routes in their order, and what they are to the router by its source table
pub record AreChosen (moment : ℕ) (sources : List (Source × Distance))
    (offers : List (Offer Speaker)) (routes : List (ChosenRoute Speaker)) : Type 0 where
  pub sorted : List (Offer Speaker)
  pub permutes : IsPermutation offers sorted
  pub in_order : IsSorted (offer_cmp speaker_cmp) sorted
  pub rows : routes ≡ chosen_rows moment sources sorted
