-- A table as a view sees it: this project's own.
use Rattle.std.specs.Prelude.{List, map}
use Rattle.babel_tlv.specs.declared.view.View.{View}
use Rattle.babel_tlv.specs.Pair.{Pair}
use Rattle.babel_tlv.specs.Views.{seen}
use Rattle.babel_table.specs.Rows.{Routes}

-- each key, with what the view sees of what it holds
abbrev pub seen_row : View → Pair → Pair
seen_row view row = (row.0, seen view row.0.dst.address.family row.1)

abbrev pub seen_rows : View → List Pair → List Pair
seen_rows view rows = map (seen_row view) rows

-- the report stays
abbrev pub seen_table : View → Routes → Routes
seen_table view table = record { rows = seen_rows view table.rows; report = table.report }
