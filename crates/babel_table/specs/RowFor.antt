-- The row that a destination and a source address are forwarded by: RFC 9079, 4.
use Rattle.std.specs.Prelude.{◌≡◌, List, Option, None, Some, Contains, map}
use Rattle.std.specs.List.{slice_get}
use Rattle.std.specs.Option.{option_map}
use Rattle.babel_prefix.specs.Address.{Address}
use Rattle.babel_prefix.specs.Entries.{answer_for}
use Rattle.babel_tlv.specs.declared.held.Held.{Held}
use Rattle.babel_tlv.specs.Pair.{Pair}
use Rattle.babel_tlv.specs.Route.{RouteKey}
use Rattle.babel_table.specs.BestMatch.{ContainsBoth, IsBestMatch, IsMoreSpecific}
use Rattle.babel_table.specs.Rows.{entries_of}
use Rattle.babel_table.specs.TableRows.{family_rows}
use Rattle.babel_table.specs.declared.row_place.RowPlace.{RowPlace}

-- the row contains both addresses, and no row that does is more specific
pub record IsBestRow (rows : List Pair) (d s : Address) (row : Pair) : Type 0 where
  pub listed : Contains rows row
  pub matching : ContainsBoth d s row.0
  pub best :
      (other : Pair) → Contains rows other → ContainsBoth d s other.0
      → ¬ IsMoreSpecific other.0 row.0

-- the best row, or none where no row contains both addresses
abbrev pub IsBestOf : List Pair → Address → Address → Option Pair → Type 0
IsBestOf rows d s None = IsBestMatch rows d s None
IsBestOf rows d s (Some row) = IsBestRow rows d s row

-- the row by which rows answer: that to which the best match leads, where each key leads to its row
abbrev pub keyed : List Pair → List (RouteKey × Pair)
keyed rows = map (λ row. (row.0, row)) rows

abbrev pub row_for : List Pair → Address → Address → Option Pair
row_for rows d s = answer_for (entries_of (keyed rows)) d s

-- what a row holds, if there is one
abbrev pub held_of : Option Pair → Option Held
held_of row = option_map (λ row. row.1) row

-- the row at a place, if one stands there
abbrev pub row_at : List Pair → RowPlace → Option Pair
row_at rows place = slice_get rows place.index

-- among the rows of the addresses' family the row by which rows answer stands there, or none does
abbrev pub IsPlaceFor : List Pair → Address → Address → RowPlace → Type 0
IsPlaceFor rows d s place = row_at (family_rows d.family rows) place ≡ row_for rows d s
