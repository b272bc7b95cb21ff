-- The row that a destination and a source address are forwarded by, in addresses and prefixes: RFC
-- 9079, 4.
use Rattle.std.specs.Prelude.{◌≡◌, ◌⊎◌, ◌<◌, List, Option, Some, None, Contains}
use Rattle.babel_prefix.specs.Address.{Address}
use Rattle.babel_prefix.specs.Covers.{Covers}
use Rattle.babel_tlv.specs.declared.held.Held.{Held}
use Rattle.babel_tlv.specs.Pair.{Pair}
use Rattle.babel_tlv.specs.Route.{RouteKey}

-- both prefixes of the key contain their address
abbrev pub ContainsBoth : Address → Address → RouteKey → Type 0
ContainsBoth dst src key = Covers key.dst dst × Covers key.src src

-- `other` has a longer destination prefix, or one as long and a longer source prefix
abbrev pub IsMoreSpecific : RouteKey → RouteKey → Type 0
IsMoreSpecific other key = (key.dst.len < other.dst.len)
    ⊎ ((other.dst.len ≡ key.dst.len) × (key.src.len < other.src.len))

-- what is held for the most specific key that contains both addresses, or nothing where nothing is
-- held for a key that contains both; `Has key held` says that this is held for the key
abbrev pub IsBestAmong : (RouteKey → Held → Type 0) → Address → Address → Option Held → Type 0
IsBestAmong Has dst src (Some held) =
    (key : RouteKey) × Has key held × ContainsBoth dst src key
    × ((other : RouteKey) (its : Held) → Has other its → ContainsBoth dst src other
    → ¬ IsMoreSpecific other key)
IsBestAmong Has dst src None =
    (key : RouteKey) (held : Held) → Has key held → ¬ ContainsBoth dst src key

-- the rows have this for the key
abbrev pub Lists : List Pair → RouteKey → Held → Type 0
Lists rows key held = Contains rows (key, held)

-- the best match among rows
abbrev pub IsBestMatch : List Pair → Address → Address → Option Held → Type 0
IsBestMatch rows = IsBestAmong (Lists rows)
