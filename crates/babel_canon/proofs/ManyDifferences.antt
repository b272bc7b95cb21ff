-- Where the differences of one family are more than a number, those of both are.
use Rattle.std.proofs.Common.{ℕ, ◌+◌, ◌<◌, List, ◌++◌, length, map, refl, sym, subst, arith}
use Rattle.std.proofs.lemmas.List.{length-map}
use Rattle.babel_prefix.specs.declared.family.Family.{Family}
use Rattle.babel_prefix.specs.declared.family.Family.TheVariants.{V4, V6}
use Rattle.babel_prefix.specs.Best.{Row}
use Rattle.babel_prefix.specs.Entries.{Entry, answers_in}
use Rattle.babel_prefix.specs.Width.{width_of}
use Rattle.babel_tlv.specs.declared.held.Held.{Held}
use Rattle.babel_tlv.specs.Pair.{Pair}
use Rattle.babel_table.specs.Bounds.{Bounds}
use Rattle.babel_trie.specs.Early.{HasMoreDifferences}
use Rattle.babel_trie.specs.declared.differing.Differing.{Differing}
use Rattle.babel_trie.proofs.ToldRuns.{differences_exist}
use Rattle.babel_canon.specs.Boxes.{answers_of}
use Rattle.babel_canon.specs.Differences.{AreFamilyDifferences, HasManyDifferences, difference_at}
use Rattle.babel_canon.specs.PackedDifferences.{valued_row}
use Rattle.babel_canon.specs.Values.{AreNumberedEntries}
use Rattle.babel_canon.specs.declared.values.PackedValue.{PackedValue}
use Rattle.babel_canon.proofs.Boxes.{held_test}
use Rattle.babel_canon.proofs.DifferenceLists.{differences-length}
use Rattle.babel_canon.proofs.Numbered.{AreDistinct}
use Rattle.babel_canon.proofs.PackedDifferences.{in_family}

-- with the values that theirs stand for there are as many
pub more_by_value : (values : List Held) → AreDistinct values → (family : Family) (rows others : List Pair) (mine theirs : List (Entry PackedValue)) (most : ℕ)
    → AreNumberedEntries family rows values mine → AreNumberedEntries family others values theirs
    → HasMoreDifferences most (width_of family) (answers_in family mine) (answers_in family theirs) → HasMoreDifferences most (width_of family) (answers_of family rows) (answers_of family others)
more_by_value values once family rows others mine theirs most mine_are theirs_are (boxes, are, more) = (
  map (valued_row values) boxes,
  in_family values once family rows others boxes (record { mine = mine; theirs = theirs; mine_are = mine_are; theirs_are = theirs_are; boxes_are = are }),
  subst (λ (n : ℕ). most < n) (sym (length-map boxes (valued_row values))) more,
)

module _ (limits : Bounds) (rows others : List Pair) where
  of_both : (v4 v6 : List (Row (Differing Held))) → AreFamilyDifferences V4 rows others v4 → AreFamilyDifferences V6 rows others v6
      → limits.entries < length v4 + length v6 → HasManyDifferences limits rows others
  of_both v4 v6 v4_are v6_are more =
      let fours = map (difference_at V4) v4 in
      let sixes = map (difference_at V6) v6 in
      (fours ++ sixes, record { v4 = v4; v6 = v6; v4_boxes = v4_are; v6_boxes = v6_are; whole = refl }, omega (arith, differences-length v4 v6, more))

  pub many_of_v4 : HasMoreDifferences limits.entries (width_of V4) (answers_of V4 rows) (answers_of V4 others) → HasManyDifferences limits rows others
  many_of_v4 (boxes, are, more) =
      let v6 = differences_exist held_test (answers_of V6 rows) (answers_of V6 others) (width_of V6) in
      of_both boxes v6.0 are v6.1 (omega (arith, more))

  pub many_of_v6 : HasMoreDifferences limits.entries (width_of V6) (answers_of V6 rows) (answers_of V6 others) → HasManyDifferences limits rows others
  many_of_v6 (boxes, are, more) =
      let v4 = differences_exist held_test (answers_of V4 rows) (answers_of V4 others) (width_of V4) in
      of_both v4.0 boxes v4.1 are (omega (arith, more))
