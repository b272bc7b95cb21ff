-- Which addresses a prefix has: RFC 8966, 4.1.5.
use Rattle.std.specs.Prelude.{◌≡◌, ℕ, ◌-◌, ◌%◌, ◌^◌, ◌<◌, ◌≤◌}
use Rattle.babel_prefix.specs.Width.{width_of}
use Rattle.babel_prefix.specs.Block.{Block, block_at, leading_bits}
use Rattle.babel_prefix.specs.Address.{Address, AddressPrefix, block_of}

-- the address agrees with the start of the block in the block's leading bits
abbrev pub BlockCovers : ℕ → Block → ℕ → Type 0
BlockCovers width block address =
    leading_bits width block.len address ≡ leading_bits width block.len block.start

-- the length is at most the width, the start is an address, and its bits past the length are zero
pub record IsBlock (width : ℕ) (block : Block) : Type 0 where
  pub len_in_range : block.len ≤ width
  pub start_in_range : block.start < 2 ^ width
  pub rest_is_zero : block.start % 2 ^ (width - block.len) ≡ 0

-- of a block of length above 0, the prefix one bit shorter that contains its addresses
abbrev pub parent : ℕ → Block → Block
parent width block = block_at width (block.len - 1) block.start

-- the length is at most the width, and the bits past the length are zero
abbrev pub IsAddressPrefix : AddressPrefix → Type 0
IsAddressPrefix p = IsBlock (width_of p.address.family) (block_of p)

-- RFC 8966, 4.1.5: a prefix has the addresses of its family that agree with it in the first len
-- bits
abbrev pub Covers : AddressPrefix → Address → Type 0
Covers p a =
    (p.address.family ≡ a.family) × BlockCovers (width_of p.address.family) (block_of p) a.bits
