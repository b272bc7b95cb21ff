-- Worked packets: what is written for pairs. Each holds by computation.
use Rattle.std.proofs.Common.{◌≡◌, ℕ, [], ◌∷◌, refl}
use Rattle.babel_prefix.specs.declared.family.Family.{Family}
use Rattle.babel_prefix.specs.declared.family.Family.TheVariants.{V4, V6}
use Rattle.babel_prefix.specs.Address.{Address, AddressPrefix, whole_family}
use Rattle.babel_tlv.specs.declared.held.Held.{Held}
use Rattle.babel_tlv.specs.declared.held.Held.TheVariants as helds
use Rattle.babel_tlv.specs.Route.{RouteKey}
use Rattle.babel_tlv.specs.Group.{body_of}

abbrev address : Family → ℕ → Address
address family bits = record { family = family; bits = bits }

abbrev prefix : Family → ℕ → ℕ → AddressPrefix
prefix family bits len = record { address = address family bits; len = len }

-- a destination of any source
abbrev key : Family → ℕ → ℕ → RouteKey
key family bits len = record { dst = prefix family bits len; src = whole_family family }

-- any IPv4 destination, of these sources
abbrev from : ℕ → ℕ → RouteKey
from bits len = record { dst = whole_family V4; src = prefix V4 bits len }

-- a route of this metric by 192.0.2.1
abbrev route : ℕ → Held
route metric = helds.Route (record { router_id = 2 ∷ 0 ∷ 0 ∷ 0 ∷ 0 ∷ 0 ∷ 0 ∷ 1 ∷ []; seqno = 1; metric = metric; next_hop = address V4 3221225985 })

-- a route by fe80::1
abbrev link_local_route : Held
link_local_route = helds.Route (record { router_id = 2 ∷ 0 ∷ 0 ∷ 0 ∷ 0 ∷ 0 ∷ 0 ∷ 7 ∷ []; seqno = 1; metric = 256; next_hop = address V6 338288524927261089654018896841347694593 })

-- one route
pub one_route :
    body_of ((key V4 167772160 8, route 256) ∷ [])
    ≡ 6 ∷ 10 ∷ 0 ∷ 0 ∷ 2 ∷ 0 ∷ 0 ∷ 0 ∷ 0 ∷ 0 ∷ 0 ∷ 1 ∷ 7 ∷ 6 ∷ 1 ∷ 0 ∷ 192 ∷ 0 ∷ 2 ∷ 1 ∷ 8 ∷ 11 ∷ 1 ∷ 128 ∷ 8 ∷ 0 ∷ 6 ∷ 64 ∷ 0 ∷ 1 ∷ 1 ∷ 0 ∷ 10 ∷ []
one_route = refl

-- two routes whose destinations share octets
pub shared_octets :
    body_of ((key V4 167837696 24, route 256) ∷ (key V4 167838208 24, route 512) ∷ [])
    ≡ 6 ∷ 10 ∷ 0 ∷ 0 ∷ 2 ∷ 0 ∷ 0 ∷ 0 ∷ 0 ∷ 0 ∷ 0 ∷ 1 ∷ 7 ∷ 6 ∷ 1 ∷ 0 ∷ 192 ∷ 0 ∷ 2 ∷ 1 ∷ 8 ∷ 13 ∷ 1 ∷ 128 ∷ 24 ∷ 0 ∷ 6 ∷ 64 ∷ 0 ∷ 1 ∷ 1 ∷ 0 ∷ 10 ∷ 1 ∷ 0 ∷ 8 ∷ 11 ∷ 1 ∷ 128 ∷ 24 ∷ 2 ∷ 6
    ∷ 64 ∷ 0 ∷ 1 ∷ 2 ∷ 0 ∷ 2 ∷ []
shared_octets = refl

-- a next hop of fe80::/64
pub link_local :
    body_of ((key V6 42540766411282592857048100139729682439 128, link_local_route) ∷ [])
    ≡ 6 ∷ 10 ∷ 0 ∷ 0 ∷ 2 ∷ 0 ∷ 0 ∷ 0 ∷ 0 ∷ 0 ∷ 0 ∷ 7 ∷ 7 ∷ 10 ∷ 3 ∷ 0 ∷ 0 ∷ 0 ∷ 0 ∷ 0 ∷ 0 ∷ 0 ∷ 0 ∷ 1 ∷ 8 ∷ 26 ∷ 2 ∷ 128 ∷ 128 ∷ 0 ∷ 6 ∷ 64 ∷ 0 ∷ 1 ∷ 1 ∷ 0 ∷ 32 ∷ 1 ∷ 13 ∷ 184 ∷ 0 ∷ 0 ∷ 0
    ∷ 0 ∷ 2 ∷ 0 ∷ 0 ∷ 0 ∷ 0 ∷ 0 ∷ 0 ∷ 7 ∷ []
link_local = refl

-- source prefixes
pub sources :
    body_of ((from 0 5, route 512) ∷ (from 134217728 7, route 512) ∷ (from 167772160 8, route 256) ∷ [])
    ≡ 6 ∷ 10 ∷ 0 ∷ 0 ∷ 2 ∷ 0 ∷ 0 ∷ 0 ∷ 0 ∷ 0 ∷ 0 ∷ 1 ∷ 7 ∷ 6 ∷ 1 ∷ 0 ∷ 192 ∷ 0 ∷ 2 ∷ 1 ∷ 8 ∷ 14 ∷ 1 ∷ 128 ∷ 0 ∷ 0 ∷ 6 ∷ 64 ∷ 0 ∷ 1 ∷ 2 ∷ 0 ∷ 128 ∷ 2 ∷ 5 ∷ 0 ∷ 8 ∷ 14 ∷ 1 ∷ 128 ∷ 0 ∷ 0 ∷ 6
    ∷ 64 ∷ 0 ∷ 1 ∷ 2 ∷ 0 ∷ 128 ∷ 2 ∷ 7 ∷ 8 ∷ 8 ∷ 14 ∷ 1 ∷ 128 ∷ 0 ∷ 0 ∷ 6 ∷ 64 ∷ 0 ∷ 1 ∷ 1 ∷ 0 ∷ 128 ∷ 2 ∷ 8 ∷ 10 ∷ []
sources = refl

-- an unreachable pair is its Update alone
pub unreachable_alone : body_of ((key V4 167772160 8, helds.Unreachable) ∷ []) ≡ 8 ∷ 11 ∷ 1 ∷ 128 ∷ 8 ∷ 0 ∷ 6 ∷ 64 ∷ 0 ∷ 0 ∷ 255 ∷ 255 ∷ 10 ∷ []
unreachable_alone = refl

-- an unreachable pair between two routes
pub unreachable_between :
    body_of ((key V4 167772160 8, route 256) ∷ (key V4 335544320 8, helds.Unreachable) ∷ (key V4 503316480 8, route 256) ∷ [])
    ≡ 6 ∷ 10 ∷ 0 ∷ 0 ∷ 2 ∷ 0 ∷ 0 ∷ 0 ∷ 0 ∷ 0 ∷ 0 ∷ 1 ∷ 7 ∷ 6 ∷ 1 ∷ 0 ∷ 192 ∷ 0 ∷ 2 ∷ 1 ∷ 8 ∷ 11 ∷ 1 ∷ 128 ∷ 8 ∷ 0 ∷ 6 ∷ 64 ∷ 0 ∷ 1 ∷ 1 ∷ 0 ∷ 10 ∷ 8 ∷ 11 ∷ 1 ∷ 128 ∷ 8 ∷ 0 ∷ 6 ∷ 64 ∷ 0 ∷ 0
    ∷ 255 ∷ 255 ∷ 20 ∷ 8 ∷ 11 ∷ 1 ∷ 128 ∷ 8 ∷ 0 ∷ 6 ∷ 64 ∷ 0 ∷ 1 ∷ 1 ∷ 0 ∷ 30 ∷ []
unreachable_between = refl

-- a route behind an unreachable pair
pub unreachable_first :
    body_of ((key V4 167772160 8, helds.Unreachable) ∷ (key V4 335544320 8, route 256) ∷ [])
    ≡ 8 ∷ 11 ∷ 1 ∷ 128 ∷ 8 ∷ 0 ∷ 6 ∷ 64 ∷ 0 ∷ 0 ∷ 255 ∷ 255 ∷ 10 ∷ 6 ∷ 10 ∷ 0 ∷ 0 ∷ 2 ∷ 0 ∷ 0 ∷ 0 ∷ 0 ∷ 0 ∷ 0 ∷ 1 ∷ 7 ∷ 6 ∷ 1 ∷ 0 ∷ 192 ∷ 0 ∷ 2 ∷ 1 ∷ 8 ∷ 11 ∷ 1 ∷ 128 ∷ 8 ∷ 0 ∷ 6 ∷ 64 ∷ 0
    ∷ 1 ∷ 1 ∷ 0 ∷ 20 ∷ []
unreachable_first = refl

-- octets are omitted against the last pair of either kind
pub omitted_behind_unreachable :
    body_of ((key V4 167837696 24, helds.Unreachable) ∷ (key V4 167838208 24, route 512) ∷ [])
    ≡ 8 ∷ 13 ∷ 1 ∷ 128 ∷ 24 ∷ 0 ∷ 6 ∷ 64 ∷ 0 ∷ 0 ∷ 255 ∷ 255 ∷ 10 ∷ 1 ∷ 0 ∷ 6 ∷ 10 ∷ 0 ∷ 0 ∷ 2 ∷ 0 ∷ 0 ∷ 0 ∷ 0 ∷ 0 ∷ 0 ∷ 1 ∷ 7 ∷ 6 ∷ 1 ∷ 0 ∷ 192 ∷ 0 ∷ 2 ∷ 1 ∷ 8 ∷ 11 ∷ 1 ∷ 128 ∷ 24 ∷ 2
    ∷ 6 ∷ 64 ∷ 0 ∷ 1 ∷ 2 ∷ 0 ∷ 2 ∷ []
omitted_behind_unreachable = refl

-- a route of IPv4 with a next hop of IPv6 is of encoding 4, whose omitted octets are those of its own last Update
pub v4_via_v6 :
    body_of ((key V4 167837696 24, link_local_route) ∷ (key V4 167837952 24, route 256) ∷ (key V4 167838208 24, link_local_route) ∷ [])
    ≡ 6 ∷ 10 ∷ 0 ∷ 0 ∷ 2 ∷ 0 ∷ 0 ∷ 0 ∷ 0 ∷ 0 ∷ 0 ∷ 7 ∷ 7 ∷ 10 ∷ 3 ∷ 0 ∷ 0 ∷ 0 ∷ 0 ∷ 0 ∷ 0 ∷ 0 ∷ 0 ∷ 1 ∷ 8 ∷ 13 ∷ 4 ∷ 128 ∷ 24 ∷ 0 ∷ 6 ∷ 64 ∷ 0 ∷ 1 ∷ 1 ∷ 0 ∷ 10 ∷ 1 ∷ 0
    ∷ 6 ∷ 10 ∷ 0 ∷ 0 ∷ 2 ∷ 0 ∷ 0 ∷ 0 ∷ 0 ∷ 0 ∷ 0 ∷ 1 ∷ 7 ∷ 6 ∷ 1 ∷ 0 ∷ 192 ∷ 0 ∷ 2 ∷ 1 ∷ 8 ∷ 13 ∷ 1 ∷ 128 ∷ 24 ∷ 0 ∷ 6 ∷ 64 ∷ 0 ∷ 1 ∷ 1 ∷ 0 ∷ 10 ∷ 1 ∷ 1
    ∷ 6 ∷ 10 ∷ 0 ∷ 0 ∷ 2 ∷ 0 ∷ 0 ∷ 0 ∷ 0 ∷ 0 ∷ 0 ∷ 7 ∷ 8 ∷ 11 ∷ 4 ∷ 128 ∷ 24 ∷ 2 ∷ 6 ∷ 64 ∷ 0 ∷ 1 ∷ 1 ∷ 0 ∷ 2 ∷ []
v4_via_v6 = refl
