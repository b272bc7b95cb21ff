-- Differences with packed values, and what a sink has of them: this project's own.
use Rattle.std.specs.Prelude.{◌≡◌, List, ◌++◌, map}
use Rattle.std.specs.Option.{option_map}
use Rattle.babel_prefix.specs.declared.family.Family.{Family}
use Rattle.babel_prefix.specs.declared.family.Family.TheVariants.{V4, V6}
use Rattle.babel_prefix.specs.Width.{width_of}
use Rattle.babel_prefix.specs.Best.{Row}
use Rattle.babel_prefix.specs.Entries.{Entry, answers_in}
use Rattle.babel_trie.specs.Differences.{AreDifferences as AreBoxesOfDifference}
use Rattle.babel_trie.specs.declared.differing.Differing.{Differing}
use Rattle.babel_tlv.specs.declared.held.Held.{Held}
use Rattle.babel_tlv.specs.Pair.{Pair}
use Rattle.babel_canon.specs.Differences.{difference_at}
use Rattle.babel_canon.specs.Values.{AreNumberedEntries, value_of}
use Rattle.babel_canon.specs.declared.every_difference.Difference.{Difference}
use Rattle.babel_canon.specs.declared.values.PackedValue.{PackedValue}

-- two answers with the values that theirs stand for
abbrev pub valued_both : List Held → Differing PackedValue → Differing Held
valued_both values both = record {
  left = option_map (value_of values) both.left;
  right = option_map (value_of values) both.right;
}

-- a row of two answers with the values that theirs stand for
abbrev pub valued_row : List Held → Row (Differing PackedValue) → Row (Differing Held)
valued_row values row = record {
  dst = row.dst;
  src = row.src;
  value = valued_both values row.value;
}

-- these are the boxes of what entries differ in that have, with these values, the rows of two
-- tables in a family
pub record ArePackedDifferences (family : Family) (rows others : List Pair) (values : List Held)
    (boxes : List (Row (Differing PackedValue))) : Type 0 where
  pub mine : List (Entry PackedValue)
  pub theirs : List (Entry PackedValue)
  pub mine_are : AreNumberedEntries family rows values mine
  pub theirs_are : AreNumberedEntries family others values theirs
  pub boxes_are : AreBoxesOfDifference (width_of family) (answers_in family mine)
      (answers_in family theirs) boxes

-- the boxes of both families as differences, IPv4 first, with the values that theirs stand for
abbrev pub valued_differences : List Held → (v4 v6 : List (Row (Differing PackedValue))) →
    List Difference
valued_differences values v4 v6 =
    map (difference_at V4) (map (valued_row values) v4)
    ++ map (difference_at V6) (map (valued_row values) v6)

-- an entry of two answers as a difference
abbrev pub packed_difference : List Held → Entry (Differing PackedValue) → Difference
packed_difference values entry = record {
  key = record { dst = entry.0; src = entry.1 };
  left = option_map (value_of values) entry.2.left;
  right = option_map (value_of values) entry.2.right;
}

-- the differences are those of the rows, with these values
pub record HasDifferences (given values : List Held) (list : List Difference)
    (rows : List (Entry (Differing PackedValue))) : Type 0 where
  pub values_are : values ≡ given
  pub list_is : list ≡ map (packed_difference given) rows
