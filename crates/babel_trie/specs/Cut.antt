-- The largest blocks in a range of addresses: this project's own.
use Rattle.std.specs.Prelude.{◌≡◌, ◌↔◌, ℕ, zero, suc, ◌+◌, ◌-◌, ◌*◌, ◌/◌, ◌%◌, ◌^◌, ◌<◌, ◌≤◌, ◌&&◌}
use Rattle.std.specs.Prelude.{nat_le, cond, List}
use Rattle.std.specs.Prelude.{[], ◌∷◌, ◌++◌, Contains, AllPairs}
use Rattle.babel_prefix.specs.Block.{Block}
use Rattle.babel_prefix.specs.Covers.{BlockCovers, IsBlock, parent}

-- each address of the block is one of those from `from` to `last`
abbrev pub IsInside : ℕ → ℕ → ℕ → Block → Type 0
IsInside width from last block =
    (a : ℕ) → a < 2 ^ width → BlockCovers width block a → (from ≤ a) × (a ≤ last)

-- a block inside, whose parent is not
pub record IsLargestIn (width from last : ℕ) (block : Block) : Type 0 where
  pub is_prefix : IsBlock width block
  pub inside : IsInside width from last block
  pub largest : 0 < block.len → IsInside width from last (parent width block) → ⊥

-- lower by the address
abbrev pub StartsBefore : Block → Block → Type 0
StartsBefore a b = a.start < b.start

-- the largest blocks inside, each once, in order
pub record AreLargestIn (width from last : ℕ) (blocks : List Block) : Type 0 where
  pub in_order : AllPairs StartsBefore blocks
  pub exact : (block : Block) → Contains blocks block ↔ IsLargestIn width from last block

-- the block of 2 ^ bits addresses from this one
abbrev pub block_from : ℕ → ℕ → ℕ → Block
block_from w start bits = record { start = start; len = w - bits }

-- it, if it lies in the range, or else these
abbrev pub block_or : ℕ → ℕ → ℕ → ℕ → ℕ → List Block → List Block
block_or w from last bits start others =
    cond (nat_le from start && nat_le (start + 2 ^ bits) (last + 1)) (block_from w start bits ∷ [])
    others

-- the largest blocks inside, of those that lie in the block of this many bits
abbrev pub blocks_in : ℕ → ℕ → ℕ → ℕ → ℕ → List Block
blocks_in w from last zero start = block_or w from last zero start []
blocks_in w from last (suc bits) start =
    block_or w from last (suc bits) start
    (blocks_in w from last bits start ++ blocks_in w from last bits (start + 2 ^ bits))

-- the largest blocks in a range
abbrev pub largest_in : ℕ → ℕ → ℕ → List Block
largest_in w from last = blocks_in w from last w 0

-- a block of 2 ^ bits addresses can start at `at` and end at `last` or before; of no more bits can
-- one
pub record IsLargestFit (at last bits : ℕ) : Type 0 where
  pub aligned : at % 2 ^ bits ≡ 0
  pub room : at + 2 ^ bits ≤ last + 1
  pub most : (more : ℕ) → bits < more → at % 2 ^ more ≡ 0 → last + 1 < at + 2 ^ more

-- at this bit the two numbers differ, and at no higher one
pub record IsSplit (from last bit : ℕ) : Type 0 where
  pub low : from / 2 ^ bit ≡ 2 * (last / 2 ^ (bit + 1))
  pub high : last / 2 ^ bit ≡ 2 * (last / 2 ^ (bit + 1)) + 1
