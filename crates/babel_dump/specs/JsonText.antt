-- The lines that the runs write as JSON (RFC 8259): one object a line, with the members in the
-- order that is shown here. No string has a character that needs an escape, but the name of an
-- interface. These are this project's own.
use Rattle.std.specs.Prelude.{Bool, if◌then◌else◌, ℕ, List, [], ◌++◌, codes, Option, Some, None}
use Rattle.std.specs.List.{filter_map, join_by}
use Rattle.std.specs.Option.{option_map}
use Rattle.std.specs.Fmt.{decimal}
use Rattle.hex.specs.Hex.{encode_lower}
use Rattle.babel_prefix.specs.Address.{Address}
use Rattle.babel_tlv.specs.declared.held.Held.{Held}
use Rattle.babel_tlv.specs.declared.held.Held.TheVariants as helds
use Rattle.babel_tlv.specs.declared.view.View.{View}
use Rattle.babel_tlv.specs.Pair.{Pair}
use Rattle.babel_tlv.specs.Route.{RouteKey, Announcement}
use Rattle.babel_tlv.specs.Views.{keeps_all}
use Rattle.babel_table.specs.Counts.{Counts, all_reasons}
use Rattle.babel_table.specs.RowFor.{held_of}
use Rattle.babel_canon.specs.declared.verdict.Verdict.{Verdict}
use Rattle.babel_canon.specs.declared.verdict.Verdict.TheVariants as verdicts
use Rattle.babel_canon.specs.declared.every_difference.Difference.{Difference}
use Rattle.babel_dump.specs.Ignored.{ignored_for}
use Rattle.babel_dump.specs.Names.{address_name, name_member, router_name}
use Rattle.babel_dump.specs.RunText.{newline, reason_name}
use Rattle.babel_dump.specs.Spelling.{address_text, prefix_text}
use Rattle.babel_dump.specs.declared.spelling.Spelling.{Spelling}
use Rattle.babel_dump.specs.declared.style.Style.{Style}

-- `"TEXT"`
abbrev pub quoted : List ℕ → List ℕ
quoted text = codes "\"" ++ text ++ codes "\""

-- the value of a field, or `null` where it is ignored
abbrev pub kept_json : (kept : Bool) → List ℕ → List ℕ
kept_json kept value = if kept then value else codes "null"

-- `"ADDRESS","next_hop_name":"NAME"`, or nulls where the next hop is ignored
abbrev pub next_hop_json : Style → (kept : Bool) → Address → List ℕ
next_hop_json style kept next_hop =
    if kept then quoted (address_text style.spelling next_hop)
    ++ name_member style (codes "next_hop_name") (address_name style next_hop)
    else codes "null" ++ name_member style (codes "next_hop_name") []

-- `"ROUTERID","router_name":"NAME"`, or nulls where the router-id is ignored
abbrev pub router_json : Style → (kept : Bool) → (router_id : List ℕ) → List ℕ
router_json style kept router_id =
    if kept then quoted (encode_lower router_id)
    ++ name_member style (codes "router_name") (router_name style router_id)
    else codes "null" ++ name_member style (codes "router_name") []

-- `{"next_hop":"ADDRESS","next_hop_name":"NAME","router_id":"ROUTERID","router_name":"NAME",
-- "seqno":N,"metric":N}`, with the names where they are asked for
abbrev pub announcement_json : Style → View → Announcement → List ℕ
announcement_json style view ann =
    codes "{\"next_hop\":" ++ next_hop_json style view.next_hop ann.next_hop
    ++ codes ",\"router_id\":" ++ router_json style view.router_id ann.router_id
    ++ codes ",\"seqno\":" ++ kept_json view.seqno (decimal ann.seqno)
    ++ codes ",\"metric\":" ++ kept_json view.metric (decimal ann.metric) ++ codes "}"

-- the announcement, `{"unreachable":true}`, or `null`
abbrev pub answer_json : Style → View → Option Held → List ℕ
answer_json style view None = codes "null"
answer_json style view (Some (helds.Route ann)) = announcement_json style view ann
answer_json style view (Some helds.Unreachable) = codes "{\"unreachable\":true}"

-- `"destination":"DST","source":"SRC"`, of their texts
abbrev pub addressed_json : (dst src : List ℕ) → List ℕ
addressed_json dst src =
    codes "\"destination\":\"" ++ dst ++ codes "\",\"source\":\"" ++ src ++ codes "\""

-- `{"destination":"DST","source":"SRC","answer":ANSWER`
abbrev pub answered_front : Style → View → (dst src : List ℕ) → Option Held → List ℕ
answered_front style view dst src answer =
    codes "{" ++ addressed_json dst src ++ codes ",\"answer\":" ++ answer_json style view answer

-- the end of an object on a line of its own
abbrev pub line_end : List ℕ
line_end = codes "}" ++ newline

-- `{"destination":"DST","source":"SRC","answer":ANSWER}`
abbrev pub pair_json : Style → View → RouteKey × Held → List ℕ
pair_json style view pair =
    answered_front style view (prefix_text style.spelling pair.0.dst)
    (prefix_text style.spelling pair.0.src) (Some pair.1) ++ line_end

-- `{"destination":"DST","source":"SRC"}`, the prefixes of the row, or `null`
abbrev pub route_json : Spelling → Option Pair → List ℕ
route_json spelling None = codes "null"
route_json spelling (Some row) =
    codes "{" ++ addressed_json (prefix_text spelling row.0.dst) (prefix_text spelling row.0.src)
    ++ codes "}"

-- `,"route":ROUTE`, where the prefixes are asked for
abbrev pub route_member : Spelling → (with_prefix : Bool) → Option Pair → List ℕ
route_member spelling with_prefix row =
    if with_prefix then codes ",\"route\":" ++ route_json spelling row else []

-- the same of a lookup, with the member for the row that answers
abbrev pub lookup_json :
    Style → (with_prefix : Bool) → (dst src : Address) → Option Pair → List ℕ
lookup_json style with_prefix dst src row =
    answered_front style keeps_all (address_text style.spelling dst)
    (address_text style.spelling src) (held_of row)
    ++ route_member style.spelling with_prefix row ++ line_end

-- `{"routes":N,"pairs":N}`
abbrev pub counts_json : ℕ → ℕ → List ℕ
counts_json rows pairs =
    codes "{\"routes\":" ++ decimal rows ++ codes ",\"pairs\":" ++ decimal pairs ++ codes "}"
    ++ newline

-- `{"reason":"NAME","count":N,"first":PLACE}`
abbrev pub counted_object : (name : List ℕ) → ℕ × ℕ → List ℕ
counted_object name counted =
    codes "{\"reason\":\"" ++ name ++ codes "\",\"count\":" ++ decimal counted.0
    ++ codes ",\"first\":"
    ++ decimal counted.1 ++ codes "}"

-- an object for each of these reasons for which something is counted
abbrev pub counted_objects :
    {R : Type 0} → (name : R → List ℕ) → (R → Option (ℕ × ℕ)) → List R → List (List ℕ)
counted_objects name counted reasons =
    filter_map (λ reason. option_map (counted_object (name reason)) (counted reason)) reasons

-- with a comma between each two
abbrev pub comma_separated : List (List ℕ) → List ℕ
comma_separated values = join_by (λ value. value) (codes ",") values

-- `"tlvs":N,"ignored":[..]`, with an object for each reason that occurred
abbrev pub report_members : Counts → List ℕ
report_members counts =
    codes "\"tlvs\":" ++ decimal counts.tlvs ++ codes ",\"ignored\":["
    ++ comma_separated (counted_objects reason_name (ignored_for counts) all_reasons)
    ++ codes "]"

-- `{"tlvs":N,"ignored":[..]}`
abbrev pub report_json : Counts → List ℕ
report_json counts = codes "{" ++ report_members counts ++ codes "}" ++ newline

-- `{"same":true}`
abbrev pub same_json : List ℕ
same_json = codes "{\"same\":true}" ++ newline

-- `{"same":false,"destination":"DST","source":"SRC","left":ANSWER,"right":ANSWER}`, of two texts
abbrev pub differ_json :
    Style → View → (dst src : List ℕ) → (left right : Option Held) → List ℕ
differ_json style view dst src left right =
    codes "{\"same\":false," ++ addressed_json dst src
    ++ codes ",\"left\":" ++ answer_json style view left
    ++ codes ",\"right\":" ++ answer_json style view right ++ codes "}" ++ newline

-- the line of a verdict, of two addresses
abbrev pub verdict_json : Style → View → Verdict → List ℕ
verdict_json style view verdicts.Same = same_json
verdict_json style view (verdicts.Differ dst src left right) =
    differ_json style view (address_text style.spelling dst) (address_text style.spelling src)
    left right

-- the line of a difference, of two prefixes
abbrev pub difference_json : Style → View → Difference → List ℕ
difference_json style view difference =
    differ_json style view (prefix_text style.spelling difference.key.dst)
    (prefix_text style.spelling difference.key.src) difference.left difference.right

-- `{"NAME":N}`
abbrev pub count_json : List ℕ → ℕ → List ℕ
count_json name count =
    codes "{\"" ++ name ++ codes "\":" ++ decimal count ++ codes "}" ++ newline
