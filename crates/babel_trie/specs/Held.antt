-- The trie that sources stand for, and the order of rows: this project's own.
use Rattle.std.specs.Prelude.{◌≡◌, ℕ, suc, zero, ◌%◌, ◌^◌, cond, List, Option, Some, None}
use Rattle.std.specs.List.{slice_get}
use Rattle.babel_prefix.specs.Address.{block_of}
use Rattle.babel_prefix.specs.Entries.{Entry}
use Rattle.babel_trie.specs.Rows.{IsNoLater}
use Rattle.babel_trie.specs.Shape.{Shape, leaf, fork, is_low}
use Rattle.babel_trie.specs.declared.table.Node.{Node}
use Rattle.babel_trie.specs.declared.table.Sources.{Sources}
use Rattle.babel_trie.specs.declared.table.Sources.TheVariants.{Constant, Stored}

module _ {V : Type 0} where
  -- a trie inside a block that a path of some bits leads to, and another beside it
  abbrev pub along : ℕ → ℕ → Shape V → Shape V → Shape V
  along zero path outside inside = inside
  along (suc skip) path outside inside =
      cond (is_low (suc skip) path) (fork (along skip (path % 2 ^ skip) outside inside) outside)
      (fork outside (along skip (path % 2 ^ skip) outside inside))

  -- a node by the tries of what it names, with some value where there is no node
  abbrev pub node_trie : V → (Sources V → Shape V) → Option (Node V) → Shape V
  node_trie other trie None = leaf other
  node_trie other trie (Some node) =
      along node.skip node.path (trie node.outside) (fork (trie node.low) (trie node.high))

  -- the trie that they stand for, through so many nodes
  abbrev pub trie_at : V → List (Node V) → ℕ → Sources V → Shape V
  trie_at other nodes zero s = leaf other
  trie_at other nodes (suc rest) (Constant v) = leaf v
  trie_at other nodes (suc rest) (Stored number) =
      node_trie other (trie_at other nodes rest) (slice_get nodes number.0)

module _ {V : Type 0} where
  -- the trie of sources that they stand for
  abbrev pub sources_at : ℕ → List (Node (Option V)) → Sources (Option V) → Shape (Option V)
  sources_at w nodes s = trie_at None nodes (suc w) s

  -- the place of a row by the starts and lengths of its destination and its source
  abbrev pub row_place : Entry V → (ℕ × ℕ) × (ℕ × ℕ)
  row_place row = ((row.0.address.bits, row.0.len), (row.1.address.bits, row.1.len))

  -- by the destination, and then by the source
  pub record RowOrder (x y : Entry V) : Type 0 where
    pub destinations : IsNoLater (block_of x.0) (block_of y.0)
    pub sources : (block_of x.0) ≡ (block_of y.0) → IsNoLater (block_of x.1) (block_of y.1)
