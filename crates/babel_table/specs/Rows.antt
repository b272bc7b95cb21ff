-- The rows of a table, by destination and source prefix: the route table of RFC 8966, 3.2.6, and
-- RFC 9079, 3.2, of one neighbour. Their order is this project's own.
use Rattle.std.specs.Prelude.{List, map}
use Rattle.std.specs.List.Sorted.{IsStrictlySortedBy}
use Rattle.std.specs.Map.{keys_of}
use Rattle.babel_prefix.specs.Entries.{Entry}
use Rattle.babel_tlv.specs.declared.held.Held.{Held}
use Rattle.babel_tlv.specs.Route.{RouteKey}
use Rattle.babel_tlv.specs.Keys.{key_cmp}
use Rattle.babel_table.specs.Counts.{Counts}

-- the keys rise, so that none is there twice
abbrev pub IsRising : {V : Type 0} → List (RouteKey × V) → Type 0
IsRising rows = IsStrictlySortedBy key_cmp (keys_of rows)

-- a table (`Table` in the code): its rows, and its report, which counts the TLVs
pub record Routes : Type 0 where
  pub rows : List (RouteKey × Held)
  pub report : Counts

-- the rows as entries to look up
abbrev pub entries_of : {V : Type 0} → List (RouteKey × V) → List (Entry V)
entries_of rows = map (λ row. (row.0.dst, row.0.src, row.1)) rows
