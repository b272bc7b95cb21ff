-- How fragments are kept, inside: this project's own.
use Rattle.std.specs.Prelude.{◌≡◌, ◌≤◌, ◌<◌, ◌+◌, ◌^◌, ℕ, Bool, Some}
use Rattle.std.specs.BTreeMap.{is_at}
use Rattle.std.specs.List.{list_any}
use Rattle.std.specs.List.Sorted.{IsStrictlySortedBy}
use Rattle.std.specs.Map.{keys_of, lookup}
use Rattle.std.specs.Ordering.{nat_cmp}
use Rattle.babel_capture.specs.Pieces.{KeptPiece, KeptPieces, furthest, is_last, len_of}

-- these stand in order of their offsets, each ends before the next begins, and what is kept of
-- their lengths and their ends is so
pub record AreKept (pieces : KeptPieces) (len end : ℕ) (has_last : Bool) : Type 0 where
  pub rising : IsStrictlySortedBy nat_cmp (keys_of pieces)
  pub apart : (at further : ℕ) (one other : KeptPiece)
      → lookup (is_at (nat_cmp at)) pieces ≡ Some one
      → lookup (is_at (nat_cmp further)) pieces ≡ Some other
      → at < further → at + one.len ≤ further
  pub lens : len ≡ len_of pieces
  pub ends : end ≡ furthest pieces
  pub fits : end < 2 ^ 16
  pub last : has_last ≡ list_any is_last pieces
