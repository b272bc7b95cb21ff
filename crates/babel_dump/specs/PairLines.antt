-- What the lines of pairs are that a filter keeps, as they are written one by one, and how many
-- they are: this project's own.
use Rattle.std.specs.Prelude.{◌≡◌, ℕ, ◌-◌, ◌^◌, ◌<◌, ◌≤◌, List, length, vec_capacity}
use Rattle.babel_tlv.specs.Pair.{Pair}
use Rattle.babel_table.specs.Bounds.{Bounds}
use Rattle.babel_canon.specs.Canonical.{AreCanonical}
use Rattle.babel_dump.specs.Device.{OutputState}
use Rattle.babel_dump.specs.Filter.{kept_rows}
use Rattle.babel_dump.specs.InFormat.{pairs_in}
use Rattle.babel_dump.specs.Run.{output}
use Rattle.babel_dump.specs.Slices.{Broke, Took}
use Rattle.babel_dump.specs.declared.filter.Filter.{Filter}
use Rattle.babel_dump.specs.declared.kept_count.KeptCount.{KeptCount}
use Rattle.babel_dump.specs.declared.pair_lines.PairLines.{PairLines}

module _ {W : Type 0} (state : W → OutputState) where
  -- the device counts one failure more, and the buffer has room for a line once it is empty
  pub record CanWrite (lines : PairLines W) : Type 0 where
    pub few_failures : (state lines.writer.now).failures < 2 ^ 64 - 1
    pub room : 2048 ≤ vec_capacity lines.buffer.now

  -- of the lines of these pairs the device took all but what the buffer has
  pub record HasLines (start lines : PairLines W) (pairs : List Pair) : Type 0 where
    pub same_writer : lines.writer.ghost_name ≡ start.writer.ghost_name
    pub same_buffer : lines.buffer.ghost_name ≡ start.buffer.ghost_name
    pub same_format : lines.format ≡ start.format
    pub same_filter : lines.filter ≡ start.filter
    pub same_view : lines.view ≡ start.view
    pub took : Took (output (state start.writer.now) (state lines.writer.now))
        (pairs_in start.format.now start.view (kept_rows start.filter pairs)) lines.buffer.now.items

  -- a write of the lines of these pairs failed
  pub record StoppedAtLine (start lines : PairLines W) (pairs : List Pair) : Type 0 where
    pub same_writer : lines.writer.ghost_name ≡ start.writer.ghost_name
    pub broke : Broke (output (state start.writer.now) (state lines.writer.now))
        (pairs_in start.format.now start.view (kept_rows start.filter pairs))

-- so many of these pairs were counted as the filter keeps, if a number of 64 bits says how many
pub record HasCounted (start kept : KeptCount) (pairs : List Pair) : Type 0 where
  pub same_filter : kept.filter ≡ start.filter
  pub count_is : length (kept_rows start.filter pairs) < 2 ^ 64
      → kept.count ≡ length (kept_rows start.filter pairs)

-- the canonical pairs of rows have so many that it keeps
pub record CountsKept (limits : Bounds) (filter : Filter) (rows : List Pair) (count : ℕ) :
    Type 0 where
  pub pairs : List Pair
  pub are_canonical : AreCanonical limits rows pairs
  pub count_is : count ≡ length (kept_rows filter pairs)
