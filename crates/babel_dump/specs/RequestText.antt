-- What `events` writes of a request: this project's own.
use Rattle.std.specs.Prelude.{ℕ, List, [], ◌++◌, Option, None, Some, codes, true}
use Rattle.std.specs.Fmt.{decimal}
use Rattle.babel_prefix.specs.Address.{Address}
use Rattle.babel_tlv.specs.declared.request.Request.{Request}
use Rattle.babel_tlv.specs.declared.request.Request.TheVariants as requests
use Rattle.babel_tlv.specs.Route.{RouteKey}
use Rattle.babel_dump.specs.JsonText.{addressed_json, router_json}
use Rattle.babel_dump.specs.Names.{named_router}
use Rattle.babel_dump.specs.Spelling.{address_text, from_prefix, prefix_text}
use Rattle.babel_dump.specs.declared.spelling.Spelling.{Spelling}
use Rattle.babel_dump.specs.declared.style.Style.{Style}

-- ` DST from SRC`
abbrev pub key_text : Spelling → RouteKey → List ℕ
key_text spelling key = codes " " ++ prefix_text spelling key.dst ++ from_prefix spelling key.src

-- ` to ADDRESS`, where it is requested of one
abbrev pub to_text : Spelling → Option Address → List ℕ
to_text spelling None = []
to_text spelling (Some address) = codes " to " ++ address_text spelling address

-- ` all`, or ` DST from SRC`, or ` DST from SRC id ROUTERID seqno N`
abbrev pub request_text : Style → Request → List ℕ
request_text style requests.All = codes " all"
request_text style (requests.Route key) = key_text style.spelling key
request_text style (requests.Seqno key router_id seqno) =
    key_text style.spelling key ++ codes " id " ++ named_router style router_id
    ++ codes " seqno " ++ decimal seqno

-- `"to":"ADDRESS",`, or null where it is not requested of one
abbrev pub to_json : Spelling → Option Address → List ℕ
to_json spelling None = codes "\"to\":null,"
to_json spelling (Some address) =
    codes "\"to\":\"" ++ address_text spelling address ++ codes "\","

-- `"destination":"DST","source":"SRC"`
abbrev pub key_json : Spelling → RouteKey → List ℕ
key_json spelling key =
    addressed_json (prefix_text spelling key.dst) (prefix_text spelling key.src)

-- `"destination":"DST","source":"SRC","router_id":"ROUTERID","seqno":N`, or null for what is not
-- requested
abbrev pub request_json : Style → Request → List ℕ
request_json style requests.All =
    codes "\"destination\":null,\"source\":null,\"router_id\":null,\"seqno\":null"
request_json style (requests.Route key) =
    key_json style.spelling key ++ codes ",\"router_id\":null,\"seqno\":null"
request_json style (requests.Seqno key router_id seqno) =
    key_json style.spelling key ++ codes ",\"router_id\":" ++ router_json style true router_id
    ++ codes ",\"seqno\":" ++ decimal seqno
