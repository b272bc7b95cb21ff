-- Values in eight octets, and rows that have these in place of values: this project's own.
use Rattle.std.specs.Prelude.{◌≡◌, ◌≢◌, ◌↔◌, ◌==◌, if◌then◌else◌, ℕ, List, [], ◌∷◌, All, Some}
use Rattle.std.specs.Prelude.{filter, get_or, map, slice_get}
use Rattle.std.specs.BTreeMap.{BTreeMap, get}
use Rattle.babel_prefix.specs.declared.family.Family.{Family}
use Rattle.babel_prefix.specs.Best.{Row}
use Rattle.babel_prefix.specs.BestRow.{AreOfFamily}
use Rattle.babel_prefix.specs.Entries.{Entry, are_of_family}
use Rattle.babel_tlv.specs.declared.held.Held.{Held}
use Rattle.babel_tlv.specs.declared.held.Held.TheVariants as helds
use Rattle.babel_tlv.specs.Group.{held_seqno, held_metric}
use Rattle.babel_tlv.specs.Pair.{Pair}
use Rattle.babel_tlv.specs.Pairs.{held_cmp}
use Rattle.babel_table.specs.declared.table_rows.TableRows.{TableRows}
use Rattle.babel_table.specs.Left.{rows_left}
use Rattle.babel_table.specs.Rows.{entries_of}
use Rattle.babel_canon.specs.declared.values.PackedValue.{PackedValue}
use Rattle.babel_canon.specs.Grids.{AreFamilyBoxes, both_families}

-- what routes of one router by one next hop have in common: the route of these with seqno and
-- metric 0
abbrev pub origin_of : Held → Held
origin_of (helds.Route ann) = helds.Route (record {
  router_id = ann.router_id;
  seqno = 0;
  metric = 0;
  next_hop = ann.next_hop;
})
origin_of helds.Unreachable = helds.Unreachable

-- the map has each origin exactly under its number, which is its place in the list
pub record AreNumbered (origins : List Held) (numbers : BTreeMap Held ℕ) : Type 0 where
  pub exact : (held : Held) (number : ℕ)
      → (get held_cmp numbers held ≡ Some number) ↔ (slice_get origins number ≡ Some held)

-- each number keeps its origin
abbrev pub KeepsValues : List Held → List Held → Type 0
KeepsValues old new =
    (i : ℕ) (held : Held) → slice_get old i ≡ Some held → slice_get new i ≡ Some held

-- the route of an origin with this seqno and metric, or unreachable where the metric is infinite
abbrev pub restored : Held → ℕ → ℕ → Held
restored (helds.Route origin) seqno metric =
    if metric == 65535 then helds.Unreachable
    else helds.Route (record {
      router_id = origin.router_id;
      seqno = seqno;
      metric = metric;
      next_hop = origin.next_hop;
    })
restored helds.Unreachable seqno metric = helds.Unreachable

abbrev pub value_of : List Held → PackedValue → Held
value_of origins value =
    restored (get_or origins value.origin helds.Unreachable) value.seqno value.metric

-- a route has a finite metric
abbrev pub HasFiniteMetric : Held → Type 0
HasFiniteMetric (helds.Route ann) = ann.metric ≢ 65535
HasFiniteMetric helds.Unreachable = Unit {0}

-- what is held is packed so: the number of its origin, its seqno and its metric; and it is restored
-- from these
pub record IsPacked (origins : List Held) (held : Held) (value : PackedValue) : Type 0 where
  pub origin : slice_get origins value.origin ≡ Some (origin_of held)
  pub seqno : value.seqno ≡ held_seqno held
  pub metric : value.metric ≡ held_metric held
  pub restores : value_of origins value ≡ held

-- something is packed so
abbrev pub HasValue : List Held → PackedValue → Type 0
HasValue origins value = IsPacked origins (value_of origins value) value

-- rows as entries, each with the packed value in place of its own
abbrev pub packed_entries : List Pair → List PackedValue → List (Entry PackedValue)
packed_entries (row ∷ rows) (value ∷ values) =
    (row.0.dst, row.0.src, value) ∷ packed_entries rows values
packed_entries (row ∷ rows) [] = []
packed_entries [] values = []

-- the same of the rows that are left
abbrev pub entries_left : TableRows → List PackedValue → List (Entry PackedValue)
entries_left rows values = packed_entries (rows_left rows) values

-- an entry with the value that its own stands for
abbrev pub valued_entry : List Held → Entry PackedValue → Entry Held
valued_entry values entry = (entry.0, entry.1, value_of values entry.2)

-- with the values that theirs stand for these are the entries of rows in a family
pub record AreNumberedEntries (family : Family) (rows : List Pair) (values : List Held)
    (entries : List (Entry PackedValue)) : Type 0 where
  pub of_family : All (AreOfFamily family) entries
  pub numbers : All (λ entry. HasValue values entry.2) entries
  pub items : map (valued_entry values) entries ≡ filter (are_of_family family) (entries_of rows)

-- a row with the value that its own stands for
abbrev pub valued : List Held → Row PackedValue → Row Held
valued values row = record { dst = row.dst; src = row.src; value = value_of values row.value }

-- with the values that theirs stand for these are the boxes of what rows answer in a family
pub record AreNumberedBoxes (family : Family) (rows : List Pair) (values : List Held)
    (boxes : List (Row PackedValue)) : Type 0 where
  pub numbers : All (λ row. HasValue values row.value) boxes
  pub boxes_are : AreFamilyBoxes family rows (map (valued values) boxes)

-- the boxes of both families as pairs, IPv4 first, with the values that theirs stand for
abbrev pub valued_pairs : List Held → List (Row PackedValue) → List (Row PackedValue) → List Pair
valued_pairs values v4 v6 = both_families (map (valued values) v4) (map (valued values) v6)
