-- The lines that `events` writes: this project's own. A place, a prefix, an address and a route are
-- written as in the lines of the other commands.
use Rattle.std.specs.Prelude.{ℕ, Bool, true, not, ◌&&◌, ◌==◌, if◌then◌else◌, List, [], ◌∷◌, ◌++◌}
use Rattle.std.specs.Prelude.{Option, None, Some, codes}
use Rattle.std.specs.Fmt.{decimal}
use Rattle.std.specs.Option.{option_map}
use Rattle.std.specs.Ordering.{is_eq}
use Rattle.std.specs.Str.{bytes_eq}
use Rattle.babel_prefix.specs.Address.{Address}
use Rattle.babel_prefix.specs.Width.{same_family}
use Rattle.babel_capture.specs.Place.{place_on}
use Rattle.babel_capture.specs.Tallies.{place_cmp}
use Rattle.babel_capture.specs.Times.{within_years}
use Rattle.babel_capture.specs.declared.place.Place.{Place}
use Rattle.babel_tlv.specs.declared.held.Held.{Held}
use Rattle.babel_tlv.specs.declared.held.Held.TheVariants as helds
use Rattle.babel_tlv.specs.declared.view.View.{View}
use Rattle.babel_tlv.specs.Route.{Announcement}
use Rattle.babel_timeline.specs.Changes.{held_after, held_before}
use Rattle.babel_timeline.specs.declared.best_match.BestMatch.{BestMatch}
use Rattle.babel_timeline.specs.declared.change.ChangeKind.{ChangeKind}
use Rattle.babel_timeline.specs.declared.change.ChangeKind.TheVariants as kinds
use Rattle.babel_timeline.specs.declared.telling.Telling.{Telling}
use Rattle.babel_timeline.specs.declared.telling.Telling.TheVariants as tellings
use Rattle.babel_dump.specs.CaptureText.{link_text, place_json, vlans_text}
use Rattle.babel_dump.specs.JsonText.{addressed_json, answer_json}
use Rattle.babel_dump.specs.NameText.{name_json, name_text}
use Rattle.babel_dump.specs.Names.{named_address, named_router, named_sender}
use Rattle.babel_dump.specs.RequestText.{key_json, key_text, request_json, request_text, to_json}
use Rattle.babel_dump.specs.RequestText.{to_text}
use Rattle.babel_dump.specs.RunText.{announcement_text, newline}
use Rattle.babel_dump.specs.Spelling.{address_text, prefix_text}
use Rattle.babel_dump.specs.TimeText.{time_json, time_or}
use Rattle.babel_dump.specs.declared.addr_pair.AddrPair.{AddrPair}
use Rattle.babel_dump.specs.declared.format.Format.{Format}
use Rattle.babel_dump.specs.declared.format.Format.TheVariants as formats
use Rattle.babel_dump.specs.declared.speaker.Speaker.{Speaker}
use Rattle.babel_dump.specs.declared.spelling.Spelling.{Spelling}
use Rattle.babel_dump.specs.declared.style.Style.{Style}

-- ---- of both formats

-- when it was, and of whom it is told
abbrev pub time_of : Telling Speaker → ℕ
time_of (tellings.Change change) = change.time
time_of (tellings.Answer time sender answer before) = time
time_of (tellings.Request time sender to request) = time
time_of (tellings.Silent time sender since routes) = time
time_of (tellings.Returns time sender) = time

abbrev pub speaker_of : Telling Speaker → Speaker
speaker_of (tellings.Change change) = change.subject.sender
speaker_of (tellings.Answer time sender answer before) = sender
speaker_of (tellings.Request time sender to request) = sender
speaker_of (tellings.Silent time sender since routes) = sender
speaker_of (tellings.Returns time sender) = sender

-- what is announced for a best match
abbrev pub ann_of : Option BestMatch → Option Announcement
ann_of best = option_map (λ its. its.ann) best

-- what is held after it, or answered from then on
abbrev pub held_from : Telling Speaker → Option Held
held_from (tellings.Change change) = option_map helds.Route (held_after change.kind)
held_from (tellings.Answer time sender answer before) = option_map helds.Route (ann_of answer)
held_from (tellings.Request time sender to request) = None
held_from (tellings.Silent time sender since routes) = None
held_from (tellings.Returns time sender) = None

-- what was held before it, or answered until then
abbrev pub held_until : Telling Speaker → Option Held
held_until (tellings.Change change) = option_map helds.Route (held_before change.kind)
held_until (tellings.Answer time sender answer before) = option_map helds.Route (ann_of before)
held_until (tellings.Request time sender to request) = None
held_until (tellings.Silent time sender since routes) = None
held_until (tellings.Returns time sender) = None

abbrev pub kind_verb : ChangeKind → List ℕ
kind_verb (kinds.Announced ann) = codes "announces"
kind_verb (kinds.Changed before now) = codes "changes"
kind_verb (kinds.Retracted before) = codes "retracts"
kind_verb (kinds.Expired before) = codes "expires"

abbrev pub verb : Telling Speaker → List ℕ
verb (tellings.Change change) = kind_verb change.kind
verb (tellings.Answer time sender answer before) = codes "answers"
verb (tellings.Request time sender to request) = codes "requests"
verb (tellings.Silent time sender since routes) = codes "silent"
verb (tellings.Returns time sender) = codes "returns"

-- ---- text

-- the place is told where it has a name, or is another than interface 0 without a link and VLANs
abbrev pub tells_place : Place → (name : List ℕ) → Bool
tells_place place [] = not (is_eq (place_cmp place (place_on 0)))
tells_place place (octet ∷ octets) = true

-- ` interface N`, where the place is told
abbrev pub interface_text : Place → (name : List ℕ) → List ℕ
interface_text place name =
    if tells_place place name then codes " interface " ++ decimal place.interface else []

-- `TIME ADDRESS interface N`; a time after the year 9999, which no event has, is `-`
abbrev pub event_front : Style → (name : List ℕ) → Telling Speaker → List ℕ
event_front style name told =
    time_or (within_years (time_of told)) ++ codes " "
    ++ named_address style (speaker_of told).sender ++ interface_text (speaker_of told).place name

-- ` via NEXTHOP id ROUTERID seqno N metric N`, or nothing where nothing is held any more
abbrev pub after_text : Style → View → Option Announcement → List ℕ
after_text style view None = []
after_text style view (Some ann) = codes " " ++ announcement_text style view ann

-- whether two addresses are one
abbrev pub is_same_address : Address → Address → Bool
is_same_address address other =
    same_family address.family other.family && (address.bits == other.bits)

-- a field's name and its text, unless it is the same now
abbrev pub unless_same : (same : Bool) → (name text : List ℕ) → List ℕ
unless_same same name text = if same then [] else name ++ text

-- ` via NEXTHOP id ROUTERID seqno N metric N`, of the fields that are others now. A field that is
-- ignored is the same.
abbrev pub differing_text : Style → (before now : Announcement) → List ℕ
differing_text style before now =
    unless_same (is_same_address before.next_hop now.next_hop) (codes " via ")
    (named_address style before.next_hop)
    ++ unless_same (bytes_eq before.router_id now.router_id) (codes " id ")
    (named_router style before.router_id)
    ++ unless_same (before.seqno == now.seqno) (codes " seqno ") (decimal before.seqno)
    ++ unless_same (before.metric == now.metric) (codes " metric ") (decimal before.metric)

-- ` was`, and of what was held the fields that are others now, where something else was held
abbrev pub was_text : Style → ChangeKind → List ℕ
was_text style (kinds.Changed before now) = codes " was" ++ differing_text style before now
was_text style kind = []

-- ` DST from SRC via NEXTHOP id ROUTERID seqno N metric N`, of the route that answers, or ` none`
abbrev pub best_text : Style → View → Option BestMatch → List ℕ
best_text style view None = codes " none"
best_text style view (Some best) =
    key_text style.spelling best.key ++ after_text style view (Some best.ann)

-- ` since TIME, holding N routes`
abbrev pub silence_text : (since routes : ℕ) → List ℕ
silence_text since routes = codes " since " ++ time_or (within_years since) ++ codes ", holding "
    ++ decimal routes ++ (if routes == 1 then codes " route" else codes " routes")

-- of a change ` DST from SRC`, what is held after it, and what was before; of an answer the route
-- that answers; of whom something is requested, and what; of who falls silent since when, and what it
-- holds; of who returns nothing
abbrev pub told_text : Style → View → Telling Speaker → List ℕ
told_text style view (tellings.Change change) =
    key_text style.spelling change.subject.key ++ after_text style view (held_after change.kind)
    ++ was_text style change.kind
told_text style view (tellings.Answer time sender answer before) =
    best_text style view answer
told_text style view (tellings.Request time sender to request) =
    to_text style.spelling to ++ request_text style request
told_text style view (tellings.Silent time sender since routes) = silence_text since routes
told_text style view (tellings.Returns time sender) = []

-- ` link N vlan N.N VERB `, and what is told
abbrev pub event_end : Style → View → Telling Speaker → List ℕ
event_end style view told =
    link_text (speaker_of told).place.link ++ vlans_text (speaker_of told).place.vlans
    ++ codes " " ++ verb told ++ told_text style view told ++ newline

-- `TIME ADDRESS interface N (NAME) link N vlan N.N VERB DST from SRC via NEXTHOP ..`, or
-- `TIME ADDRESS interface N (NAME) link N vlan N.N answers none`
abbrev pub event_line : Style → View → (name : List ℕ) → Telling Speaker → List ℕ
event_line style view name told =
    event_front style name told ++ name_text name ++ event_end style view told

-- ---- JSON

-- `{"time":"TIME","sender":"ADDRESS","interface":N,"link":N,"vlans":[N,N],"name":`
abbrev pub event_front_json : Style → Telling Speaker → List ℕ
event_front_json style told =
    codes "{\"time\":" ++ time_json (within_years (time_of told)) ++ codes ",\"sender\":"
    ++ named_sender style (speaker_of told).sender ++ place_json (speaker_of told).place

-- `"destination":"DST","source":"SRC"`, of a change two prefixes, of an answer the two addresses
-- that are asked for
abbrev pub asked_json : Spelling → Option AddrPair → List ℕ
asked_json spelling None = codes "\"destination\":null,\"source\":null"
asked_json spelling (Some pair) =
    addressed_json (address_text spelling pair.dst) (address_text spelling pair.src)

-- `,"route":{"destination":"DST","source":"SRC"}`, of the route that answers, or `,"route":null`
abbrev pub route_json : Spelling → Option BestMatch → List ℕ
route_json spelling None = codes ",\"route\":null"
route_json spelling (Some best) =
    codes ",\"route\":{" ++ key_json spelling best.key ++ codes "}"

-- `,"answer":ANSWER,"before":ANSWER`
abbrev pub answers_json : Style → View → Telling Speaker → List ℕ
answers_json style view told =
    codes ",\"answer\":" ++ answer_json style view (held_from told)
    ++ codes ",\"before\":" ++ answer_json style view (held_until told)

-- `,"since":"TIME","routes":N`
abbrev pub silence_json : (since routes : ℕ) → List ℕ
silence_json since routes =
    codes ",\"since\":" ++ time_json (within_years since) ++ codes ",\"routes\":" ++ decimal routes

-- of a change and an answer, of what it is and these two, before which an answer has its route; of a
-- request, of whom, and what; of who falls silent these two; of who returns nothing
abbrev pub told_json : Style → View → Option AddrPair → Telling Speaker → List ℕ
told_json style view pair (tellings.Change change) =
    codes "," ++ addressed_json (prefix_text style.spelling change.subject.key.dst)
    (prefix_text style.spelling change.subject.key.src)
    ++ answers_json style view (tellings.Change change)
told_json style view pair (tellings.Answer time sender answer before) =
    codes "," ++ asked_json style.spelling pair ++ route_json style.spelling answer
    ++ answers_json style view (tellings.Answer time sender answer before)
told_json style view pair (tellings.Request time sender to request) =
    codes "," ++ to_json style.spelling to ++ request_json style request
told_json style view pair (tellings.Silent time sender since routes) = silence_json since routes
told_json style view pair (tellings.Returns time sender) = []

-- `,"event":"VERB"`, what is told, and `}`: of a change, say, `"destination":"DST","source":"SRC",
-- "answer":ANSWER,"before":ANSWER`
abbrev pub event_end_json : Style → View → Option AddrPair → Telling Speaker → List ℕ
event_end_json style view pair told =
    codes ",\"event\":\"" ++ verb told ++ codes "\"" ++ told_json style view pair told
    ++ codes "}" ++ newline

-- `{"time":"TIME","sender":"ADDRESS","interface":N,"link":N,"vlans":[N,N],"name":"NAME"`, and then
-- `,"event":"VERB","destination":"DST","source":"SRC","answer":ANSWER,"before":ANSWER}`
abbrev pub event_json :
    Style → View → Option AddrPair → (name : List ℕ) → Telling Speaker → List ℕ
event_json style view pair name told =
    event_front_json style told ++ name_json name ++ event_end_json style view pair told

-- ---- the line, where the interface has this name, and these addresses are asked for, if any
abbrev pub event_in :
    Format → View → Option AddrPair → (name : List ℕ) → Telling Speaker → List ℕ
event_in (formats.Text style) view pair name told = event_line style view name told
event_in (formats.Json style) view pair name told = event_json style view pair name told
