-- A key and what is held for it: RFC 8966, 2.8; RFC 9079, 3.2.
use Rattle.babel_tlv.specs.declared.held.Held.{Held}
use Rattle.babel_tlv.specs.Route.{RouteKey}

-- a row of a table or a canonical pair: two prefixes, and a route or unreachable (`Held`)
abbrev pub Pair : Type 0
Pair = RouteKey × Held
