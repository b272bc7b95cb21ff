-- What a lookup looks for among rows: RFC 9079, 4.
use Rattle.std.specs.Prelude.{Option, IfSome}
use Rattle.babel_prefix.specs.Address.{Address}
use Rattle.babel_tlv.specs.Pair.{Pair}
use Rattle.babel_tlv.specs.Route.{RouteKey}
use Rattle.babel_table.specs.BestMatch.{ContainsBoth, IsMoreSpecific}

-- the key contains both addresses, and is more specific than that of the best row so far
abbrev pub IsBetter : Address → Address → RouteKey → Option Pair → Type 0
IsBetter dst src key best = ContainsBoth dst src key × IfSome best (λ row. IsMoreSpecific key row.0)
