-- What two tables answer (RFC 9079, 4) differently, as boxes of both families: this project's own.
use Rattle.std.specs.Prelude.{◌≡◌, ◌⊎◌, ℕ, ◌<◌, List, ◌++◌, length, map}
use Rattle.babel_prefix.specs.declared.family.Family.{Family}
use Rattle.babel_prefix.specs.declared.family.Family.TheVariants.{V4, V6}
use Rattle.babel_prefix.specs.Width.{width_of}
use Rattle.babel_prefix.specs.Address.{prefix_of}
use Rattle.babel_prefix.specs.Best.{Row}
use Rattle.babel_trie.specs.Differences.{AreDifferences as AreBoxesOfDifference}
use Rattle.babel_trie.specs.declared.differing.Differing.{Differing}
use Rattle.babel_tlv.specs.declared.fault.Fault.{Fault}
use Rattle.babel_tlv.specs.declared.fault.Fault.TheVariants as faults
use Rattle.babel_tlv.specs.declared.held.Held.{Held}
use Rattle.babel_tlv.specs.Pair.{Pair}
use Rattle.babel_table.specs.Bounds.{Bounds}
use Rattle.babel_canon.specs.Boxes.{answers_of}
use Rattle.babel_canon.specs.declared.every_difference.Difference.{Difference}

-- a box of a family as a difference
abbrev pub difference_at : Family → Row (Differing Held) → Difference
difference_at family row = record {
  key = record { dst = prefix_of family row.dst; src = prefix_of family row.src };
  left = row.value.left;
  right = row.value.right;
}

-- the boxes of what rows and others answer differently in a family
abbrev pub AreFamilyDifferences :
    Family → List Pair → List Pair → List (Row (Differing Held)) → Type 0
AreFamilyDifferences family rows others boxes =
    AreBoxesOfDifference (width_of family) (answers_of family rows) (answers_of family others) boxes

-- the differences are the boxes of what rows and others answer differently: IPv4 first, then by
-- destination, then by source
pub record AreDifferences (rows others : List Pair) (differences : List Difference) : Type 0 where
  pub v4 : List (Row (Differing Held))
  pub v6 : List (Row (Differing Held))
  pub v4_boxes : AreFamilyDifferences V4 rows others v4
  pub v6_boxes : AreFamilyDifferences V6 rows others v6
  pub whole : differences ≡ map (difference_at V4) v4 ++ map (difference_at V6) v6

-- the differences are so many
pub record CountsDifferences (rows others : List Pair) (count : ℕ) : Type 0 where
  pub differences : List Difference
  pub are_differences : AreDifferences rows others differences
  pub count_is : count ≡ length differences

-- the differences are more than the limit
abbrev pub HasManyDifferences : Bounds → List Pair → List Pair → Type 0
HasManyDifferences limits rows others =
    (differences : List Difference)
    × AreDifferences rows others differences × (limits.entries < length differences)

-- too many differences, or out of memory
abbrev pub DifferencesFault : Bounds → List Pair → List Pair → Fault → Type 0
DifferencesFault limits rows others fault =
    ((fault ≡ faults.TooManyPairs) × HasManyDifferences limits rows others)
    ⊎ (fault ≡ faults.Memory)
