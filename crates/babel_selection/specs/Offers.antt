-- The routes that senders announce at a moment, as a router has them, and what each is to it: RFC
-- 8966, 3.2.6, 3.6.
use Rattle.std.specs.Prelude.{ℕ, ◌+◌, ◌&&◌, true, false, not, min, if◌then◌else◌, List, []}
use Rattle.std.specs.Prelude.{◌∷◌, ◌++◌}
use Rattle.std.specs.Prelude.{map, Some, None}
use Rattle.std.specs.declared.cmp.Ordering.{Ordering}
use Rattle.std.specs.Ordering.{bool_cmp, nat_cmp, on, then_cmp}
use Rattle.std.specs.BTreeMap.{is_at}
use Rattle.std.specs.List.{filter, flat_map}
use Rattle.babel_tlv.specs.Keys.{announcement_cmp, key_cmp}
use Rattle.babel_tlv.specs.Route.{Announcement, RouteKey}
use Rattle.babel_selection.specs.declared.candidate.Candidate.{Candidate}
use Rattle.babel_selection.specs.declared.distance.Distance.{Distance}
use Rattle.babel_selection.specs.declared.offer.Offer.{Offer}
use Rattle.babel_selection.specs.declared.offers.ChosenRoute.{ChosenRoute}
use Rattle.babel_selection.specs.declared.selection.Choice.{Choice}
use Rattle.babel_selection.specs.declared.source.Source.{Source}
use Rattle.babel_selection.specs.Distances.{source_cmp, source_of, standing}
use Rattle.babel_selection.specs.Hearing.{entry_at}
use Rattle.babel_selection.specs.Links.{infinite}
use Rattle.babel_selection.specs.Selection.{choice_of, state_of}

module _ {S : Type 0} where
  -- a route of another sender, whose link costs so much: the metric by it is at most infinite
  abbrev pub offer_of : RouteKey → Announcement → (by : S) → (cost : ℕ) → Offer S
  offer_of key ann by cost = record {
    key = key;
    is_other = true;
    total = min infinite (ann.metric + cost);
    by = by;
    cost = cost;
    ann = ann;
  }

  -- one that the router announces itself
  abbrev pub own_offer : RouteKey → Announcement → (by : S) → Offer S
  own_offer key ann by = record {
    key = key;
    is_other = false;
    total = ann.metric;
    by = by;
    cost = 0;
    ann = ann;
  }

  -- by key; then the router's own first; then by the metric that it has by them; then by sender
  abbrev pub offer_cmp : (S → S → Ordering) → Offer S → Offer S → Ordering
  offer_cmp by_cmp =
      then_cmp (on (λ o. o.key) key_cmp)
      (then_cmp (on (λ o. o.is_other) bool_cmp)
      (then_cmp (on (λ o. o.total) nat_cmp)
      (then_cmp (on (λ o. o.by) by_cmp)
      (then_cmp (on (λ o. o.cost) nat_cmp) (on (λ o. o.ann) announcement_cmp)))))

  -- ---- the routes for one key

  -- what the router announces itself
  abbrev pub owns_in : List (Offer S) → List Announcement
  owns_in offers = map (λ o. o.ann) (filter (λ o. not o.is_other) offers)

  -- what others announce, with the entry of its source that stands at the moment
  abbrev pub candidate_of : ℕ → List (Source × Distance) → Offer S → Candidate
  candidate_of moment sources offer = record {
    ann = offer.ann;
    cost = offer.cost;
    distance = standing moment (entry_at source_cmp sources (source_of offer.key offer.ann));
  }

  abbrev pub candidates_in : ℕ → List (Source × Distance) → List (Offer S) → List Candidate
  candidates_in moment sources offers =
      map (candidate_of moment sources) (filter (λ o. o.is_other) offers)

  -- what a route of another is to the router
  abbrev pub chosen_route :
      ℕ → List (Source × Distance) → Choice → List Announcement → Offer S → ChosenRoute S
  chosen_route moment sources choice owns offer = record {
    offer = offer;
    distance = (candidate_of moment sources offer).distance;
    state = Some (state_of choice owns (candidate_of moment sources offer));
  }

  -- the first of them, which are the router's own, if it announces none of the others, but one of its
  -- own
  abbrev pub own_chosen : Choice → List (Offer S) → List (ChosenRoute S)
  own_chosen choice [] = []
  own_chosen choice (first ∷ rest) =
      if choice.is_own && not choice.is_named
      then record { offer = first; distance = None; state = None } ∷ [] else []

  -- its own, if it uses that, and each of another
  abbrev pub chosen_of : ℕ → List (Source × Distance) → List (Offer S) → List (ChosenRoute S)
  chosen_of moment sources offers =
      let choice = choice_of (candidates_in moment sources offers) (owns_in offers) in
      own_chosen choice offers
      ++ map (chosen_route moment sources choice (owns_in offers)) (filter (λ o. o.is_other) offers)

  -- ---- the routes for all keys

  -- a route before lists of routes: with those of the first list, if they are for its key
  abbrev pub before_keys : Offer S → List (List (Offer S)) → List (List (Offer S))
  before_keys offer [] = (offer ∷ []) ∷ []
  before_keys offer ([] ∷ lists) = (offer ∷ []) ∷ lists
  before_keys offer ((next ∷ others) ∷ lists) =
      if is_at (key_cmp offer.key) next.key then (offer ∷ next ∷ others) ∷ lists
      else (offer ∷ []) ∷ (next ∷ others) ∷ lists

  -- routes in their order, a list for each key
  unfoldable pub by_key : List (Offer S) → List (List (Offer S))
  by_key [] = []
  by_key (offer ∷ offers) = before_keys offer (by_key offers)

  -- what they are to the router, key by key
  abbrev pub chosen_rows : ℕ → List (Source × Distance) → List (Offer S) → List (ChosenRoute S)
  chosen_rows moment sources offers = flat_map (chosen_of moment sources) (by_key offers)
