-- Where the boxes of one family are more than a number, those of both are.
use Rattle.std.proofs.Common.{◌≡◌, ℕ, ◌+◌, ◌<◌, List, length, map, Option, Some, None, refl, sym, subst, arith}
use Rattle.std.proofs.lemmas.List.{length-map}
use Rattle.babel_prefix.specs.declared.family.Family.{Family}
use Rattle.babel_prefix.specs.declared.family.Family.TheVariants.{V4, V6}
use Rattle.babel_prefix.specs.Best.{Row}
use Rattle.babel_prefix.specs.Entries.{Entry, answers_in}
use Rattle.babel_prefix.specs.Width.{width_of}
use Rattle.babel_tlv.specs.declared.held.Held.{Held}
use Rattle.babel_tlv.specs.Pair.{Pair}
use Rattle.babel_table.specs.Bounds.{Bounds}
use Rattle.babel_table.specs.TableRows.{AreRows}
use Rattle.babel_trie.specs.Early.{HasMoreBoxes}
use Rattle.babel_trie.proofs.BoxesExist.{boxes_exist}
use Rattle.babel_canon.specs.Boxes.{answers_of}
use Rattle.babel_canon.specs.Canonical.{HasManyBoxes}
use Rattle.babel_canon.specs.Grids.{AreFamilyBoxes, both_families}
use Rattle.babel_canon.specs.Values.{AreNumberedEntries, valued}
use Rattle.babel_canon.specs.declared.values.PackedValue.{PackedValue}
use Rattle.babel_canon.proofs.Boxes.{held_test}
use Rattle.babel_canon.proofs.Families.{both_are_boxes, both-length}
use Rattle.babel_canon.proofs.Numbered.{AreDistinct}
use Rattle.babel_canon.proofs.ValueLists.{numbered_boxes}

-- what is no value is none
pub no_grid : {X : Type 0} (found : Option X) → ((x : X) → found ≡ Some x → ⊥) → found ≡ None
no_grid = elim [
  | None ↦ λ _. refl
  | Some x ↦ λ none. absurd (none x refl)
]

-- with the values that theirs stand for there are as many
pub more_by_value : (values : List Held) → AreDistinct values → (family : Family) (rows : List Pair) (entries : List (Entry PackedValue)) (most : ℕ) → AreNumberedEntries family rows values entries
    → HasMoreBoxes most (width_of family) (answers_in family entries) → HasMoreBoxes most (width_of family) (answers_of family rows)
more_by_value values once family rows entries most entries_are (boxes, are, more) = (
  map (valued values) boxes,
  (numbered_boxes values once family rows entries boxes entries_are are).boxes_are,
  subst (λ (n : ℕ). most < n) (sym (length-map boxes (valued values))) more,
)

module _ (limits : Bounds) (rows : List Pair) (are : AreRows rows) where
  of_both : (v4 v6 : List (Row Held)) → AreFamilyBoxes V4 rows v4 → AreFamilyBoxes V6 rows v6 → limits.entries < length v4 + length v6 → HasManyBoxes limits rows
  of_both v4 v6 v4_are v6_are more = (both_families v4 v6, both_are_boxes rows v4 v6 are v4_are v6_are, omega (arith, both-length v4 v6, more))

  pub many_of_v4 : HasMoreBoxes limits.entries (width_of V4) (answers_of V4 rows) → HasManyBoxes limits rows
  many_of_v4 (boxes, boxes_are, more) =
      let v6 = boxes_exist held_test (width_of V6) (answers_of V6 rows) in
      of_both boxes v6.0 boxes_are v6.1 (omega (arith, more))

  pub many_of_v6 : HasMoreBoxes limits.entries (width_of V6) (answers_of V6 rows) → HasManyBoxes limits rows
  many_of_v6 (boxes, boxes_are, more) =
      let v4 = boxes_exist held_test (width_of V4) (answers_of V4 rows) in
      of_both v4.0 boxes v4.1 boxes_are (omega (arith, more))
