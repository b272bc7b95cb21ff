-- How many leaves with a value the tries of a table have: this project's own.
use Rattle.std.specs.Prelude.{◌≡◌, ℕ, ◌+◌, ◌*◌, ◌-◌, ◌^◌, min, List, length, get_or, Option, Some}
use Rattle.std.specs.Prelude.{None}
use Rattle.babel_trie.specs.Shape.{Shape, leaf, fork}
use Rattle.babel_trie.specs.Interned.{Represents}
use Rattle.babel_trie.specs.Sound.{IsBelow}
use Rattle.babel_trie.specs.declared.table.Node.{Node}
use Rattle.babel_trie.specs.declared.table.Sources.{Sources}
use Rattle.babel_trie.specs.declared.table.Sources.TheVariants.{Constant, Stored}

-- a count that stops at the greatest number of 64 bits
abbrev pub capped : ℕ → ℕ
capped n = min n (2 ^ 64 - 1)

module _ {V : Type 0} where
  -- how many leaves have a value
  abbrev pub value_count : Shape (Option V) → ℕ
  value_count (leaf None) = 0
  value_count (leaf (Some v)) = 1
  value_count (fork low high) = value_count low + value_count high

  -- the same, from the counts of the nodes
  abbrev pub sources_count : List ℕ → Sources (Option V) → ℕ
  sources_count counts (Constant None) = 0
  sources_count counts (Constant (Some v)) = 1
  sources_count counts (Stored number) = get_or counts number.0 0

  -- the same of a node, from the counts of those before it
  abbrev pub node_count : List ℕ → Node (Option V) → ℕ
  node_count counts node =
      capped (node.skip * sources_count counts node.outside
      + (sources_count counts node.low + sources_count counts node.high))

  -- the counts of the nodes up to a number
  pub record AreCounted (nodes : List (Node (Option V))) (n : ℕ) (counts : List ℕ) : Type 0 where
    pub len : length counts ≡ n
    pub each : (s : Sources (Option V)) (t : Shape (Option V)) → IsBelow n s →
        Represents nodes s t →
        sources_count counts s ≡ capped (value_count t)
