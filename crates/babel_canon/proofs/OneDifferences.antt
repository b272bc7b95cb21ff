-- Two tables have one list of differences.
use Rattle.std.proofs.Common.{◌≡◌, inl, inr, ℕ, ◌<◌, suc, List, [], ◌∷◌, ◌++◌, length, map, sym, ◌∙◌, ap, subst, arith}
use Rattle.std.specs.List.{AllPairs}
use Rattle.babel_prefix.specs.declared.family.Family.{Family}
use Rattle.babel_prefix.specs.declared.family.Family.TheVariants.{V4, V6}
use Rattle.babel_prefix.specs.Width.{width_of}
use Rattle.babel_prefix.specs.Best.{Row}
use Rattle.babel_prefix.specs.Entries.{answers_in}
use Rattle.babel_prefix.proofs.Members.{Listed, Listed-from_Contains, Contains-from_Listed}
use Rattle.babel_trie.specs.Boxes.{Answers, IsBefore, SameAnswers}
use Rattle.babel_trie.specs.Differences.{AreDifferences as AreBoxesOfDifference}
use Rattle.babel_trie.specs.Rows.{InOrder}
use Rattle.babel_trie.specs.declared.differing.Differing.{Differing}
use Rattle.babel_trie.proofs.BoxLaws.{IsBox-same}
use Rattle.babel_trie.proofs.OneList.{one_list}
use Rattle.babel_trie.proofs.TellLaws.{one_told}
use Rattle.babel_tlv.specs.declared.held.Held.{Held}
use Rattle.babel_tlv.specs.Pair.{Pair}
use Rattle.babel_table.specs.Rows.{entries_of}
use Rattle.babel_canon.specs.Differences.{AreFamilyDifferences, difference_at}
use Rattle.babel_canon.specs.declared.every_difference.Difference.{Difference}
use Rattle.babel_canon.specs.DifferenceLaws.{DifferencesAreOne, ManyAreMore}

abbrev Boxes : Type 0
Boxes = List (Row (Differing Held))

-- each box comes before all later ones
in_order : (boxes : Boxes) → AllPairs IsBefore boxes → InOrder IsBefore boxes
in_order [] pairs = tt
in_order (box ∷ boxes) pairs = (
  λ later listed. let c = Contains-from_Listed boxes later listed in subst (IsBefore box) c.2 (pairs 0 (suc c.0) later (omega arith) (omega (arith, c.1))),
  in_order boxes (λ i j d lt j_in. pairs (suc i) (suc j) d (omega arith) (omega arith)),
)

-- of two boxes only one comes before the other
one_before : (x y : Row (Differing Held)) → IsBefore x y → IsBefore y x → ⊥
one_before x y (inl lower) (inl higher) = omega arith
one_before x y (inl lower) (inr higher) = omega (arith, higher.0)
one_before x y (inr lower) (inl higher) = omega (arith, lower.0)
one_before x y (inr lower) (inr higher) = omega (arith, lower.1, higher.1)

module _ (width : ℕ) (f g : Answers Held) where
  -- two functions have one difference
  one_difference : (xs ys : Boxes) (are : AreBoxesOfDifference width f g xs) (too : AreBoxesOfDifference width f g ys) → SameAnswers width are.difference too.difference
  one_difference xs ys are too d s d_in s_in =
      one_told (f d s) (g d s) (are.difference d s) (too.difference d s) (are.is_difference d s d_in s_in) (too.is_difference d s d_in s_in)

  listed_too : (xs ys : Boxes) → AreBoxesOfDifference width f g xs → AreBoxesOfDifference width f g ys → (box : Row (Differing Held)) → Listed xs box → Listed ys box
  listed_too xs ys are too box listed =
      let is_box = (are.box_list.exact box).0 (Contains-from_Listed xs box listed) in
      let is_box_too = IsBox-same width are.difference too.difference box (one_difference xs ys are too) is_box in
      Listed-from_Contains ys box ((too.box_list.exact box).1 is_box_too)

  one_list_of_boxes : (xs ys : Boxes) → AreBoxesOfDifference width f g xs → AreBoxesOfDifference width f g ys → xs ≡ ys
  one_list_of_boxes xs ys are too =
      one_list IsBefore one_before xs ys (in_order xs are.box_list.in_order) (in_order ys too.box_list.in_order) (listed_too xs ys are too) (listed_too ys xs too are)

one_in_family : (family : Family) (rows others : List Pair) (xs ys : Boxes) → AreFamilyDifferences family rows others xs → AreFamilyDifferences family rows others ys → xs ≡ ys
one_in_family family rows others = one_list_of_boxes (width_of family) (answers_in family (entries_of rows)) (answers_in family (entries_of others))

pub differences_are_one : DifferencesAreOne
differences_are_one rows others differences too are are_too =
    are.whole
    ∙ ap (λ (v4 : Boxes). map (difference_at V4) v4 ++ map (difference_at V6) are.v6) (one_in_family V4 rows others are.v4 are_too.v4 are.v4_boxes are_too.v4_boxes)
    ∙ ap (λ (v6 : Boxes). map (difference_at V4) are_too.v4 ++ map (difference_at V6) v6) (one_in_family V6 rows others are.v6 are_too.v6 are.v6_boxes are_too.v6_boxes)
    ∙ sym are_too.whole

pub many_are_more : ManyAreMore
many_are_more limits rows others differences are = (
  (λ many. subst (λ (all : List Difference). limits.entries < length all)
      (differences_are_one rows others many.0 differences many.1 are) many.2),
  (λ more. (differences, are, more)),
)
