-- A block inside another that all rows lie in, and the trie there.
use Rattle.std.specs.Prelude.{◌≡◌, ℕ, ◌+◌, ◌-◌, ◌*◌, ◌^◌, ◌<◌, ◌≤◌, List}
use Rattle.babel_prefix.specs.Block.{Block}
use Rattle.babel_trie.specs.Held.{along}
use Rattle.babel_trie.specs.Interned.{Stands}
use Rattle.babel_trie.specs.Rows.{InBlock, IsPlace}
use Rattle.babel_trie.specs.Shape.{Shape, leaf, height, value_at, IsReduced}
use Rattle.babel_trie.specs.declared.table.Loose.{Loose}
use Rattle.babel_trie.specs.declared.table.Node.{Node}

-- all rows of a block lie in a smaller one of n bits that starts at s, and the path leads there
pub record IsInner {X : Type 0} (key : X → Block) (w bits start : ℕ) (rows : List X)
    (n s path : ℕ) : Type 0 where
  pub smaller : n < bits
  pub path_in : path < 2 ^ (bits - n)
  pub start_is : s ≡ start + path * 2 ^ n
  pub place : IsPlace w n s
  pub rows_in : InBlock key w n s rows

-- it stands for the trie in the block that these bits of a trie lead to, which has this value
-- beside the block
pub record IsInside {V : Type 0} (nodes : List (Node V)) (x : Loose V) (skip path : ℕ) (v : V)
    (whole : Shape V) : Type 0 where
  pub inside : Shape V
  pub stands : Stands nodes x inside
  pub values : (bits a : ℕ) →
      value_at whole bits a ≡ value_at (along skip path (leaf v) inside) bits a
  pub lower : (n : ℕ) → height whole ≤ n + skip → height inside ≤ n
  pub reduced : IsReduced whole → IsReduced inside
