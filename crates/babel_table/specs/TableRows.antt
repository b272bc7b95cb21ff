-- What every table keeps of its rows, and the rows of one family: RFC 8966, 3.2.6; RFC 9079, 3.2.
use Rattle.std.specs.Prelude.{List, filter}
use Rattle.std.specs.List.{AllByRecursion}
use Rattle.babel_prefix.specs.declared.family.Family.{Family}
use Rattle.babel_prefix.specs.Width.{same_family}
use Rattle.babel_tlv.specs.declared.held.Held.{Held}
use Rattle.babel_tlv.specs.Route.{RouteKey}
use Rattle.babel_tlv.specs.Pairs.{IsPair}
use Rattle.babel_table.specs.Rows.{IsRising}

-- what every table keeps
pub record AreRows (rows : List (RouteKey × Held)) : Type 0 where
  pub rising : IsRising rows
  pub each : AllByRecursion IsPair rows

-- the rows of one family
abbrev pub family_rows : {V : Type 0} → Family → List (RouteKey × V) → List (RouteKey × V)
family_rows family rows = filter (λ row. same_family row.0.dst.address.family family) rows
