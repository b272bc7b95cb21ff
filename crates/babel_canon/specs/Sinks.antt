-- The pairs that a sink is given for rows with packed values: this project's own.
use Rattle.std.specs.Prelude.{◌≡◌, List, ◌++◌, map}
use Rattle.std.specs.Borrow.{MutBor}
use Rattle.babel_prefix.specs.Entries.{Entry}
use Rattle.babel_tlv.specs.declared.held.Held.{Held}
use Rattle.babel_tlv.specs.Pair.{Pair}
pub use Rattle.babel_trie.specs.Sinks.{StopsAmong}
use Rattle.babel_canon.specs.declared.values.PackedValue.{PackedValue}
use Rattle.babel_canon.specs.Grids.{pair_of}
use Rattle.babel_canon.specs.Values.{valued_entry}

-- an entry as a pair with the value that its own stands for
abbrev pub numbered_pair : List Held → Entry PackedValue → Pair
numbered_pair values entry = pair_of (valued_entry values entry)

-- it is the same sink, and what it had of some pairs it then has of these and those of the rows,
-- with these values
pub record HasUnpacked {S : Type 0} (Had Has : S → S → List Pair → Type 0) (given : List Held)
    (begun : MutBor S) (values : List Held) (out : MutBor S) (rows : List (Entry PackedValue))
    : Type 0 where
  pub values_are : values ≡ given
  pub same_sink : out.ghost_name ≡ begun.ghost_name
  pub has : (start : S) (pairs : List Pair) → Had start begun.now pairs
      → Has start out.now (pairs ++ map (numbered_pair given) rows)
