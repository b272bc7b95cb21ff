-- Of which keys it is told what a router uses for two addresses: the best match of those of which
-- it uses a route, and those that match better, of which it uses none. RFC 9079, 4.
use Rattle.std.specs.Prelude.{◌≡◌, Bool, not, ◌==◌, ◌&&◌, ◌||◌, nat_lt}
use Rattle.std.specs.Prelude.{if◌then◌else◌, List, fold, Option, Some, None}
use Rattle.std.specs.List.{list_any}
use Rattle.babel_prefix.specs.Address.{Address}
use Rattle.babel_tlv.specs.Route.{RouteKey}
use Rattle.babel_timeline.specs.Telling.{covers}
use Rattle.babel_selection.specs.declared.told_keys.UsedKey.{UsedKey}

-- both prefixes of the key contain their address
abbrev pub contains_both : Address → Address → RouteKey → Bool
contains_both dst src key = covers key.dst dst && covers key.src src

-- a key has a longer destination prefix, or one as long and a longer source prefix
abbrev pub is_longer : RouteKey → RouteKey → Bool
is_longer key other = nat_lt other.dst.len key.dst.len
    || (key.dst.len == other.dst.len && nat_lt other.src.len key.src.len)

-- a key is told if it matches, and no key of which a route is used matches better
abbrev pub is_of_answer : Address → Address → List UsedKey → RouteKey → Bool
is_of_answer dst src keys key = contains_both dst src key
    && not (list_any (λ one. one.is_used && contains_both dst src one.key
    && is_longer one.key key) keys)

-- ---- the same by the best match

abbrev pub is_chosen : Address → Address → Option RouteKey → UsedKey → Bool
is_chosen dst src None one = one.is_used && contains_both dst src one.key
is_chosen dst src (Some best) one =
    one.is_used && contains_both dst src one.key && is_longer one.key best

abbrev pub best_used : Address → Address → List UsedKey → Option RouteKey
best_used dst src keys =
    fold (λ best one. if is_chosen dst src best one then Some one.key else best) None keys

abbrev pub is_told : Address → Address → Option RouteKey → RouteKey → Bool
is_told dst src None key = contains_both dst src key
is_told dst src (Some best) key = contains_both dst src key && not (is_longer best key)

-- a law: both are one
abbrev pub ToldAreOfAnswer : Type 0
ToldAreOfAnswer = (dst src : Address) (keys : List UsedKey) (key : RouteKey)
    → is_told dst src (best_used dst src keys) key ≡ is_of_answer dst src keys key
