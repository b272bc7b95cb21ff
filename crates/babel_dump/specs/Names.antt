-- The names that `--names` gives addresses and router-ids, and where they stand: this project's
-- own.
use Rattle.std.specs.Prelude.{ℕ, if◌then◌else◌, List, [], ◌++◌, codes, Option, None, Some, is_some}
use Rattle.std.specs.BTreeMap.{get}
use Rattle.std.specs.Cmp.Lexicographic.{slice_cmp}
use Rattle.std.specs.Ordering.{nat_cmp}
use Rattle.hex.specs.Hex.{encode_lower}
use Rattle.babel_prefix.specs.Address.{Address}
use Rattle.babel_prefix.specs.Order.{address_cmp}
use Rattle.babel_dump.specs.NameText.{name_json, name_text}
use Rattle.babel_dump.specs.Spelling.{address_text}
use Rattle.babel_dump.specs.declared.format.Format.{Format}
use Rattle.babel_dump.specs.declared.format.Format.TheVariants as formats
use Rattle.babel_dump.specs.declared.name.Name.{Name}
use Rattle.babel_dump.specs.declared.names.Names.{Names}
use Rattle.babel_dump.specs.declared.spelling.Spelling.{Spelling}
use Rattle.babel_dump.specs.declared.style.Style.{Style}

-- the octets of a name; none where there is no name
abbrev pub octets_of : Option Name → List ℕ
octets_of None = []
octets_of (Some name) = name.octets.items

-- the name that an address has, and a router-id
abbrev pub name_at : Names → Address → List ℕ
name_at names addr = octets_of (get address_cmp names.addresses addr)

abbrev pub router_name_at : Names → (router_id : List ℕ) → List ℕ
router_name_at names router_id = octets_of (get (slice_cmp nat_cmp) names.routers router_id)

-- none without `--names`
abbrev pub name_among : Option Names → Address → List ℕ
name_among None addr = []
name_among (Some names) addr = name_at names addr

abbrev pub router_name_among : Option Names → (router_id : List ℕ) → List ℕ
router_name_among None router_id = []
router_name_among (Some names) router_id = router_name_at names router_id

abbrev pub address_name : Style → Address → List ℕ
address_name style addr = name_among style.names addr

abbrev pub router_name : Style → (router_id : List ℕ) → List ℕ
router_name style router_id = router_name_among style.names router_id

-- how a format writes addresses and router-ids
abbrev pub style_of : Format → Style
style_of (formats.Text style) = style
style_of (formats.Json style) = style

-- without names
abbrev pub plain : Spelling → Style
plain spelling = record { spelling = spelling; names = None }

-- ---- text

-- `ADDRESS (NAME)` of a sender or a next hop, `ROUTERID (NAME)`
abbrev pub named_address : Style → Address → List ℕ
named_address style addr = address_text style.spelling addr ++ name_text (address_name style addr)

abbrev pub named_router : Style → (router_id : List ℕ) → List ℕ
named_router style router_id = encode_lower router_id ++ name_text (router_name style router_id)

-- ---- JSON

-- `,"MEMBER":"NAME"`, or null where there is no name; nothing without `--names`
abbrev pub name_member : Style → (member name : List ℕ) → List ℕ
name_member style member name =
    if is_some style.names then codes ",\"" ++ member ++ codes "\":" ++ name_json name else []

-- `"ADDRESS","sender_name":"NAME"`
abbrev pub named_sender : Style → Address → List ℕ
named_sender style sender =
    codes "\"" ++ address_text style.spelling sender ++ codes "\""
    ++ name_member style (codes "sender_name") (address_name style sender)
