-- What laying rows over a trie gives: the best match of RFC 9079, 4, block by block.
use Rattle.std.specs.Prelude.{◌≡◌, ◌⊎◌, ℕ, ◌+◌, ◌^◌, ◌<◌, ◌≤◌, Bool, true, false, List, [], Option}
use Rattle.std.specs.Prelude.{Some}
use Rattle.babel_prefix.specs.Entries.{Entry}
use Rattle.babel_prefix.specs.Covers.{BlockCovers}
use Rattle.babel_prefix.specs.Address.{block_of}
use Rattle.babel_prefix.specs.Best.{Row}
use Rattle.babel_trie.specs.Shape.{Shape, leaf, height, value_at, IsReduced}
use Rattle.babel_trie.specs.Held.{along}
use Rattle.babel_trie.specs.Interned.{Stands, Represents}
use Rattle.babel_prefix.specs.Members.{Listed}
use Rattle.babel_trie.specs.Rows.{Overlays}
use Rattle.babel_trie.specs.declared.table.Loose.{Loose}
use Rattle.babel_trie.specs.declared.table.Node.{Node}
use Rattle.babel_trie.specs.declared.table.Sources.{Sources}

-- one is what is for the lower half and the other what is for the upper
abbrev pub AreHalvesBy : {X : Type 0} → Bool → X → X → X → X → Type 0
AreHalvesBy true inside beside low high = (low ≡ inside) × (high ≡ beside)
AreHalvesBy false inside beside low high = (low ≡ beside) × (high ≡ inside)

module _ {V : Type 0} where
  -- it stands for the trie in a block that these bits lead to, with this value beside it
  pub record IsAlong (nodes : List (Node V)) (x : Loose V) (skip path : ℕ) (v : V)
      (inside : Shape V) : Type 0 where
    pub whole : Shape V
    pub stands : Stands nodes x whole
    pub values : (bits a : ℕ) →
        value_at whole bits a ≡ value_at (along skip path (leaf v) inside) bits a
    pub lower : height whole ≤ height inside + skip
    pub reduced : IsReduced inside → IsReduced whole

  -- the rows have one destination prefix
  abbrev pub HasOneDestination : List (Entry V) → Type 0
  HasOneDestination rows =
      (x y : Entry V) → Listed rows x → Listed rows y → (block_of x.0) ≡ (block_of y.0)

  -- it stands for a leaf with the value of one of the rows, or for the old trie where there are
  -- none
  pub record IsSet (rows : List (Entry V)) (nodes : List (Node (Option V))) (x : Loose (Option V))
      (old : Shape (Option V)) : Type 0 where
    pub new : Shape (Option V)
    pub stands : Stands nodes x new
    pub is : ((rows ≡ []) × (new ≡ old))
        ⊎ ((row : Entry V) × Listed rows row × (new ≡ leaf (Some row.2)))

  -- it stands for the old trie with rows laid over it, for destinations that all rows cover
  pub record IsLaid (w bits start : ℕ) (rows : List (Row V)) (nodes : List (Node (Option V)))
      (x : Loose (Option V)) (old : Shape (Option V)) : Type 0 where
    pub new : Shape (Option V)
    pub stands : Stands nodes x new
    pub fits : height old ≤ bits → height new ≤ bits
    pub reduced : IsReduced old → IsReduced new
    pub values : (d a : ℕ) → ((row : Row V) → Listed rows row → BlockCovers w row.dst d) →
        a < 2 ^ bits →
        Overlays w rows d (start + a) (value_at old bits a) (value_at new bits a)

  -- they stand for the old trie with rows laid over it, for destinations that all rows cover
  pub record IsOverlaid (w bits start : ℕ) (rows : List (Row V)) (nodes : List (Node (Option V)))
      (s : Sources (Option V)) (old : Shape (Option V)) : Type 0 where
    pub new : Shape (Option V)
    pub stands : Represents nodes s new
    pub fits : height old ≤ bits → height new ≤ bits
    pub reduced : IsReduced old → IsReduced new
    pub values : (d a : ℕ) → ((row : Row V) → Listed rows row → BlockCovers w row.dst d) →
        a < 2 ^ bits →
        Overlays w rows d (start + a) (value_at old bits a) (value_at new bits a)

  -- what the sources stand for gives all sources of the row its value
  abbrev pub SaysOf : ℕ → List (Node (Option V)) → Sources (Option V) → Entry V → Type 0
  SaysOf w nodes s row =
      (t : Shape (Option V)) (a : ℕ) → Represents nodes s t → BlockCovers w (block_of row.1) a →
      value_at t w a ≡ Some row.2
