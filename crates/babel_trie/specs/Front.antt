-- The rows that two lists begin with both, and those that reach an address: this project's own.
use Rattle.std.specs.Prelude.{◌≡◌, ℕ, ◌-◌, ◌/◌, ◌^◌, Bool, nat_le, List, ◌++◌}
use Rattle.babel_prefix.specs.Address.{block_of}
use Rattle.babel_prefix.specs.Entries.{Entry}
use Rattle.babel_trie.specs.Pass.{StartRowsFrom}

module _ {V : Type 0} where
  -- whether the destination of a row has this address or a later one
  abbrev pub reaches : ℕ → ℕ → Entry V → Bool
  reaches w at row =
      nat_le (at / 2 ^ (w - (block_of row.0).len))
      ((block_of row.0).start / 2 ^ (w - (block_of row.0).len))

  -- these are what is left of the two lists after the same rows
  pub record AreBehind (left right rest other_rest : List (Entry V)) : Type 0 where
    pub front : List (Entry V)
    pub whole : left ≡ front ++ rest
    pub other_whole : right ≡ front ++ other_rest

  -- the two lists begin with the same rows, and the others start at this address or after it
  pub record ShareFront (left right : List (Entry V)) (at : ℕ) : Type 0 where
    pub rest : List (Entry V)
    pub other_rest : List (Entry V)
    pub behind : AreBehind left right rest other_rest
    pub from : StartRowsFrom at rest
    pub other_from : StartRowsFrom at other_rest
