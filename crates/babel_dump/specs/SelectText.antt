-- The lines of `select`: this project's own.
use Rattle.std.specs.Prelude.{ℕ, ◌==◌, if◌then◌else◌, List, [], ◌++◌, codes, Option, Some, None}
use Rattle.std.specs.Fmt.{decimal}
use Rattle.babel_capture.specs.Gathering.{Gathering, name_of}
use Rattle.babel_tlv.specs.Views.{keeps_all}
use Rattle.babel_tlv.specs.declared.held.Held.TheVariants as helds
use Rattle.babel_selection.specs.Links.{infinite}
use Rattle.babel_selection.specs.declared.distance.Distance.{Distance}
use Rattle.babel_selection.specs.declared.offers.ChosenRoute.{ChosenRoute}
use Rattle.babel_selection.specs.declared.selection.RouteState.{RouteState}
use Rattle.babel_selection.specs.declared.selection.RouteState.TheVariants as states
use Rattle.babel_dump.specs.JsonText.{addressed_json, answer_json, line_end}
use Rattle.babel_dump.specs.Led.{lead_in}
use Rattle.babel_dump.specs.RunText.{newline, pair_text}
use Rattle.babel_dump.specs.Spelling.{prefix_text}
use Rattle.babel_dump.specs.declared.format.Format.{Format}
use Rattle.babel_dump.specs.declared.format.Format.TheVariants as formats
use Rattle.babel_dump.specs.declared.speaker.Speaker.{Speaker}
use Rattle.babel_dump.specs.declared.style.Style.{Style}

-- a cost, or a metric
abbrev pub metric_text : ℕ → List ℕ
metric_text metric = if metric == infinite then codes "infinite" else decimal metric

abbrev pub state_name : Option RouteState → List ℕ
state_name None = codes "own"
state_name (Some states.Unheard) = codes "unheard"
state_name (Some states.Unreachable) = codes "unreachable"
state_name (Some states.Unfeasible) = codes "unfeasible"
state_name (Some states.Selected) = codes "selected"
state_name (Some states.Feasible) = codes "feasible"

-- ` SEQNO METRIC` of the entry that forbids a route, if one does
abbrev pub forbidding_text : Option RouteState → Option Distance → List ℕ
forbidding_text (Some states.Unfeasible) (Some distance) =
    codes " " ++ decimal distance.seqno ++ codes " " ++ decimal distance.metric
forbidding_text state distance = []

-- `DST from SRC via NEXTHOP .. metric N by `
abbrev pub chosen_front : Style → ChosenRoute Speaker → List ℕ
chosen_front style route =
    pair_text style keeps_all (route.offer.key, helds.Route route.offer.ann) ++ codes " by "

-- `cost N total N STATE`
abbrev pub chosen_end : ChosenRoute Speaker → List ℕ
chosen_end route =
    codes "cost " ++ metric_text route.offer.cost ++ codes " total "
    ++ metric_text route.offer.total ++ codes " " ++ state_name route.state
    ++ forbidding_text route.state route.distance ++ newline

-- `{"seqno":N,"metric":N}`, or `null`
abbrev pub distance_json : Option Distance → List ℕ
distance_json None = codes "null"
distance_json (Some distance) =
    codes "{\"seqno\":" ++ decimal distance.seqno ++ codes ",\"metric\":" ++ decimal distance.metric
    ++ codes "}"

-- `"destination":"DST","source":"SRC","answer":ANSWER`
abbrev pub chosen_front_json : Style → ChosenRoute Speaker → List ℕ
chosen_front_json style route =
    addressed_json (prefix_text style.spelling route.offer.key.dst)
    (prefix_text style.spelling route.offer.key.src) ++ codes ",\"answer\":"
    ++ answer_json style keeps_all (Some (helds.Route route.offer.ann))

-- `,"state":"STATE","distance":DISTANCE}`
abbrev pub state_json : ChosenRoute Speaker → List ℕ
state_json route =
    codes ",\"state\":\"" ++ state_name route.state ++ codes "\",\"distance\":"
    ++ distance_json route.distance ++ line_end

-- `,"cost":N,"total":N` and that
abbrev pub chosen_end_json : ChosenRoute Speaker → List ℕ
chosen_end_json route =
    codes ",\"cost\":" ++ decimal route.offer.cost ++ codes ",\"total\":"
    ++ decimal route.offer.total ++ state_json route

-- a route, of a sender at its place: in JSON these come first
abbrev pub chosen_with : Format → (lead : List ℕ) → ChosenRoute Speaker → List ℕ
chosen_with (formats.Text style) lead route = chosen_front style route ++ lead ++ chosen_end route
chosen_with (formats.Json style) lead route =
    lead ++ chosen_front_json style route ++ chosen_end_json route

abbrev pub chosen_in : Format → Gathering → ChosenRoute Speaker → List ℕ
chosen_in format gathering route =
    let by = route.offer.by in
    chosen_with format (lead_in format (record { place = by.place; sender = by.sender })
    (name_of gathering by.place.interface)) route
