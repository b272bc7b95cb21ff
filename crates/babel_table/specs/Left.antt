-- What an iterator over rows has left to give.
use Rattle.std.specs.Prelude.{List, ◌++◌}
use Rattle.babel_tlv.specs.Pair.{Pair}
use Rattle.babel_table.specs.declared.table_rows.TableRows.{TableRows}

-- the rows of IPv4, then those of IPv6
abbrev pub rows_left : TableRows → List Pair
rows_left r = (r.v4.now ++ r.v4_any_hop.now) ++ r.v6.now
