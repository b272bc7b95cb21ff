-- Numbers that go with values, by which they are found again, and that mostly differ where values
-- do: this project's own.
use Rattle.std.specs.Prelude.{ℕ, ◌+◌, ◌*◌, ◌/◌, ◌%◌, ◌^◌, Option, Some, None}
use Rattle.babel_trie.specs.declared.differing.Differing.{Differing}
use Rattle.babel_trie.specs.declared.table.Node.{Node}
use Rattle.babel_trie.specs.declared.table.Sources.{Sources}
use Rattle.babel_trie.specs.declared.table.Sources.TheVariants.{Constant, Stored}

-- one mark of two: their sum times an odd number of 64 bits whose bits look drawn
abbrev pub stirred : ℕ → ℕ → ℕ
stirred mark other = (mark + other) % 2 ^ 64 * 11400714819323198485 % 2 ^ 64

module _ {V : Type 0} where
  abbrev pub option_mark : (V → ℕ) → Option V → ℕ
  option_mark mark None = 0
  option_mark mark (Some v) = mark v

  abbrev pub differing_mark : (Option V → ℕ) → Differing V → ℕ
  differing_mark mark differing = stirred (mark differing.left) (mark differing.right)

  abbrev pub sources_mark : (V → ℕ) → Sources V → ℕ
  sources_mark mark (Constant v) = mark v
  sources_mark mark (Stored number) = number.0

  abbrev pub node_mark : (Sources V → ℕ) → Node V → ℕ
  node_mark mark node =
      stirred (stirred (stirred
      (stirred (stirred (stirred 0 node.skip) (node.path % 2 ^ 64)) (node.path / 2 ^ 64))
      (mark node.outside)) (mark node.low)) (mark node.high)
