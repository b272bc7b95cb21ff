-- Which route a router uses, of those that its neighbours announce for a key: RFC 8966, 3.5.1,
-- 3.5.2, 3.6. What it announces itself for the key, at each of its addresses, is what it uses.
use Rattle.std.specs.Prelude.{◌≡◌, ◌≢◌, ◌⊎◌, ℕ, ◌+◌, ◌<◌, ◌≤◌, Bool, true, false, not, ◌==◌, ◌&&◌}
use Rattle.std.specs.Prelude.{◌||◌, nat_lt, min, if◌then◌else◌, List, length, fold, Contains}
use Rattle.std.specs.Prelude.{Option, Some, None}
use Rattle.std.specs.List.{list_all, list_any}
use Rattle.std.specs.Str.{bytes_eq}
use Rattle.babel_tlv.specs.Route.{Announcement}
use Rattle.babel_selection.specs.declared.candidate.Candidate.{Candidate}
use Rattle.babel_selection.specs.declared.distance.Distance.{Distance}
use Rattle.babel_selection.specs.declared.selection.Choice.{Choice}
use Rattle.babel_selection.specs.declared.selection.RouteState.{RouteState}
use Rattle.babel_selection.specs.declared.selection.RouteState.TheVariants as states
use Rattle.babel_selection.specs.Distances.{is_feasible, is_nearer}
use Rattle.babel_selection.specs.Links.{infinite}

-- RFC 8966, 3.5.2: the metric that the router has by a route, at most infinite
abbrev pub total : Candidate → ℕ
total candidate = min infinite (candidate.ann.metric + candidate.cost)

-- RFC 8966, 3.6: the router may use a route that is feasible and not infinite
abbrev pub is_usable : Candidate → Bool
is_usable candidate =
    nat_lt (total candidate) infinite && is_feasible candidate.distance candidate.ann

-- the least metric of those that it may use; infinite where there is none
abbrev pub least_total : List Candidate → ℕ
least_total candidates =
    fold (λ least candidate. if is_usable candidate then min least (total candidate) else least)
    infinite candidates

abbrev pub is_least : ℕ → Candidate → Bool
is_least least candidate = is_usable candidate && total candidate == least

-- ---- what the router announces itself

-- it announces this route, with the metric that it has by it
abbrev pub is_announced : Candidate → Announcement → Bool
is_announced candidate own = is_usable candidate
    && bytes_eq candidate.ann.router_id own.router_id && total candidate == own.metric

abbrev pub is_named : List Announcement → Candidate → Bool
is_named owns candidate = list_any (is_announced candidate) owns

abbrev pub any_named : List Announcement → List Candidate → Bool
any_named owns candidates = list_any (is_named owns) candidates

-- a route of the least metric comes from the router that is announced
abbrev pub has_least : ℕ → List Candidate → Announcement → Bool
has_least least candidates own = list_any
    (λ candidate. is_least least candidate && bytes_eq candidate.ann.router_id own.router_id)
    candidates

-- what is announced is of none of the routes that are here: its metric is smaller than the least,
-- or it comes from another router than each of these
abbrev pub is_contradicted : ℕ → List Candidate → Announcement → Bool
is_contradicted least candidates own =
    nat_lt own.metric least || not (has_least least candidates own)

abbrev pub all_contradicted : ℕ → List Candidate → List Announcement → Bool
all_contradicted least candidates owns = list_all (is_contradicted least candidates) owns

-- of all that it announces for the key, the first one with the least metric
abbrev pub is_less : Option Announcement → Announcement → Bool
is_less None own = true
is_less (Some best) own = nat_lt own.metric best.metric

abbrev pub least_own : List Announcement → Option Announcement
least_own owns = fold (λ best own. if is_less best own then Some own else best) None owns

-- ---- what it uses

-- the least metric; whether the router announces one of the routes; and whether it announces
-- something for the key, and each time what is of none of them: a route of its own, or of a link
-- that is not here
abbrev pub choice_of : List Candidate → List Announcement → Choice
choice_of candidates owns = record {
  least = least_total candidates;
  is_named = any_named owns candidates;
  is_own = nat_lt 0 (length owns) && all_contradicted (least_total candidates) candidates owns;
}

-- it uses what it announces; else, unless that is of none of them, those of the least metric
abbrev pub is_selected : Choice → List Announcement → Candidate → Bool
is_selected choice owns candidate =
    if choice.is_named then is_named owns candidate
    else not choice.is_own && is_least choice.least candidate

-- what a route is to the router: the first of these that applies
abbrev pub state_of : Choice → List Announcement → Candidate → RouteState
state_of choice owns candidate =
    if candidate.cost == infinite then states.Unheard
    else if total candidate == infinite then states.Unreachable
    else if not (is_feasible candidate.distance candidate.ann) then states.Unfeasible
    else if is_selected choice owns candidate then states.Selected else states.Feasible

abbrev pub state_among : List Candidate → List Announcement → Candidate → RouteState
state_among candidates owns = state_of (choice_of candidates owns) owns

-- ---- laws

-- what is selected is feasible and not infinite
abbrev pub SelectedIsUsable : Type 0
SelectedIsUsable = (candidates : List Candidate) (owns : List Announcement) (one : Candidate)
    → state_among candidates owns one ≡ states.Selected
    → (total one < infinite) × (is_feasible one.distance one.ann ≡ true)

-- what is selected is announced by the router itself, or is of the least metric of all that it may
-- use, where it announces nothing, or not each time what is of none of them
abbrev pub SelectedIsLeast : Type 0
SelectedIsLeast = (candidates : List Candidate) (owns : List Announcement) (one : Candidate)
    → state_among candidates owns one ≡ states.Selected
    → (is_named owns one ≡ true)
    ⊎ (((other : Candidate) → Contains candidates other → is_usable other ≡ true
    → total one ≤ total other) × ((choice_of candidates owns).is_own ≡ false))

-- what the router's own entry forbids is never selected
abbrev pub UnfeasibleIsNotSelected : Type 0
UnfeasibleIsNotSelected = (candidates : List Candidate) (owns : List Announcement)
    (one : Candidate) (distance : Distance) → one.distance ≡ Some distance
    → is_nearer one.ann distance ≡ false → state_among candidates owns one ≢ states.Selected
