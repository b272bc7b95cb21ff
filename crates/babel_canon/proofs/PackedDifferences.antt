-- What packed answers tell apart is what the answers they stand for do.
use Rattle.std.proofs.Common.{◌≡◌, ℕ, List, [], ◌∷◌, ◌++◌, map, Option, Some, None, refl, sym, ap, subst, ◌∙◌}
use Rattle.std.specs.Option.{option_map}
use Rattle.std.proofs.lemmas.List.{map-append}
use Rattle.babel_prefix.specs.declared.family.Family.{Family}
use Rattle.babel_prefix.specs.declared.family.Family.TheVariants.{V4, V6}
use Rattle.babel_prefix.specs.Width.{width_of}
use Rattle.babel_prefix.specs.Best.{Row}
use Rattle.babel_prefix.specs.Entries.{answers_in}
use Rattle.babel_trie.specs.Boxes.{Answers}
use Rattle.babel_trie.specs.Differences.{TellsApart}
use Rattle.babel_trie.specs.Differences.{AreDifferences as AreBoxesOfDifference}
use Rattle.babel_trie.specs.Nested.{entry_at}
use Rattle.babel_trie.specs.declared.differing.Differing.{Differing}
use Rattle.babel_tlv.specs.declared.held.Held.{Held}
use Rattle.babel_tlv.specs.Pair.{Pair}
use Rattle.babel_table.specs.Rows.{entries_of}
use Rattle.babel_canon.specs.Differences.{AreDifferences, AreFamilyDifferences, difference_at}
use Rattle.babel_canon.specs.PackedDifferences.{ArePackedDifferences, packed_difference, valued_both, valued_differences, valued_row}
use Rattle.babel_canon.specs.Values.{KeepsValues, value_of}
use Rattle.babel_canon.specs.declared.every_difference.Difference.{Difference}
use Rattle.babel_canon.specs.declared.values.PackedValue.{PackedValue}
use Rattle.babel_canon.proofs.MappedBoxes.{mapped_boxes}
use Rattle.babel_canon.proofs.Numbered.{AreDistinct, Says, said_once, says_map}
use Rattle.babel_canon.proofs.ValueLists.{entries_say, entries_still}

module _ (values : List Held) where
  -- what a sink has of the boxes of a family
  differences_of : (family : Family) (boxes : List (Row (Differing PackedValue)))
      → map (packed_difference values) (map (entry_at family) boxes) ≡ map (difference_at family) (map (valued_row values) boxes)
  differences_of family [] = refl
  differences_of family (box ∷ boxes) = ap (λ (ds : List Difference). difference_at family (valued_row values box) ∷ ds) (differences_of family boxes)

  pub differences_of_both : (v4 v6 : List (Row (Differing PackedValue))) → map (packed_difference values) (([] ++ map (entry_at V4) v4) ++ map (entry_at V6) v6) ≡ valued_differences values v4 v6
  differences_of_both v4 v6 =
      map-append (packed_difference values) (map (entry_at V4) v4) (map (entry_at V6) v6)
      ∙ ap (λ (ds : List Difference). ds ++ map (packed_difference values) (map (entry_at V6) v6)) (differences_of V4 v4)
      ∙ ap (λ (ds : List Difference). map (difference_at V4) (map (valued_row values) v4) ++ ds) (differences_of V6 v6)

  module _ (distinct : AreDistinct values) (w : ℕ) (g h : Answers PackedValue) (f k : Answers Held)
      (left : (d s : ℕ) → Says values (g d s) (f d s)) (right : (d s : ℕ) → Says values (h d s) (k d s)) where
    f_is : (d s : ℕ) → f d s ≡ option_map (value_of values) (g d s)
    f_is d s = says_map values (g d s) (f d s) (left d s)

    k_is : (d s : ℕ) → k d s ≡ option_map (value_of values) (h d s)
    k_is d s = says_map values (h d s) (k d s) (right d s)

    left_once : (d s e t : ℕ) → f d s ≡ f e t → g d s ≡ g e t
    left_once d s e t same = said_once values distinct (g d s) (g e t) (f e t) (subst (Says values (g d s)) same (left d s)) (left e t)

    right_once : (d s e t : ℕ) → k d s ≡ k e t → h d s ≡ h e t
    right_once d s e t same = said_once values distinct (h d s) (h e t) (k e t) (subst (Says values (h d s)) same (right d s)) (right e t)

    tells_by_value : (d s : ℕ) (x : Option (Differing PackedValue)) → TellsApart (g d s) (h d s) x → TellsApart (f d s) (k d s) (option_map (valued_both values) x)
    tells_by_value d s None same = f_is d s ∙ ap (option_map (value_of values)) same ∙ sym (k_is d s)
    tells_by_value d s (Some both) told = (
      (λ same. told.0 (said_once values distinct (g d s) (h d s) (k d s) (subst (Says values (g d s)) same (left d s)) (right d s))),
      ap (option_map (value_of values)) told.1 ∙ sym (f_is d s),
      ap (option_map (value_of values)) told.2 ∙ sym (k_is d s),
    )

    told_once : (d s e t : ℕ) (x y : Option (Differing PackedValue)) → TellsApart (g d s) (h d s) x → TellsApart (g e t) (h e t) y →
        option_map (valued_both values) x ≡ option_map (valued_both values) y → x ≡ y
    told_once d s e t None None p q same = refl
    told_once d s e t None (Some c) p q same = cc
    told_once d s e t (Some b) None p q same = cc
    told_once d s e t (Some b) (Some c) p q same =
        let both : valued_both values b ≡ valued_both values c = cc in
        let lefts : option_map (value_of values) b.left ≡ option_map (value_of values) c.left = ap (λ (r : Differing Held). r.left) both in
        let rights : option_map (value_of values) b.right ≡ option_map (value_of values) c.right = ap (λ (r : Differing Held). r.right) both in
        let f_same : f d s ≡ f e t = f_is d s ∙ ap (option_map (value_of values)) (sym p.1) ∙ lefts ∙ ap (option_map (value_of values)) q.1 ∙ sym (f_is e t) in
        let k_same : k d s ≡ k e t = k_is d s ∙ ap (option_map (value_of values)) (sym p.2) ∙ rights ∙ ap (option_map (value_of values)) q.2 ∙ sym (k_is e t) in
        ap (λ (l : Option PackedValue). let r : Differing PackedValue = record { left = l; right = b.right } in Some r) (p.1 ∙ left_once d s e t f_same ∙ sym q.1)
        ∙ ap (λ (r : Option PackedValue). let z : Differing PackedValue = record { left = c.left; right = r } in Some z) (p.2 ∙ right_once d s e t k_same ∙ sym q.2)

    -- the boxes of the difference by value are those by packed value
    pub differences_by_value : (boxes : List (Row (Differing PackedValue))) → AreBoxesOfDifference w g h boxes → AreBoxesOfDifference w f k (map (valued_row values) boxes)
    differences_by_value boxes are = record {
      difference = λ d s. option_map (valued_both values) (are.difference d s);
      is_difference = λ d s d_in s_in. tells_by_value d s (are.difference d s) (are.is_difference d s d_in s_in);
      box_list = mapped_boxes (valued_both values) w are.difference (λ d s. option_map (valued_both values) (are.difference d s)) (λ d s. refl)
          (λ d s e t d_in s_in e_in t_in same. told_once d s e t (are.difference d s) (are.difference e t) (are.is_difference d s d_in s_in) (are.is_difference e t e_in t_in) same)
          boxes are.box_list;
    }

  -- what is told apart in packed values is told apart by value
  pub in_family : AreDistinct values → (family : Family) (rows others : List Pair) (boxes : List (Row (Differing PackedValue)))
      → ArePackedDifferences family rows others values boxes → AreFamilyDifferences family rows others (map (valued_row values) boxes)
  in_family distinct family rows others boxes are =
      differences_by_value distinct (width_of family) (answers_in family are.mine) (answers_in family are.theirs) (answers_in family (entries_of rows)) (answers_in family (entries_of others))
      (entries_say values family rows are.mine are.mine_are) (entries_say values family others are.theirs are.theirs_are) boxes are.boxes_are

  -- the boxes of both families are the differences
  pub are_valued : AreDistinct values → (rows others : List Pair) (v4 v6 : List (Row (Differing PackedValue)))
      → ArePackedDifferences V4 rows others values v4 → ArePackedDifferences V6 rows others values v6
      → AreDifferences rows others (valued_differences values v4 v6)
  are_valued distinct rows others v4 v6 v4_are v6_are = record {
    v4 = map (valued_row values) v4;
    v6 = map (valued_row values) v6;
    v4_boxes = in_family distinct V4 rows others v4 v4_are;
    v6_boxes = in_family distinct V6 rows others v6 v6_are;
    whole = refl;
  }

-- they stay so while more values are numbered
pub differences_still : (old new : List Held) → KeepsValues old new → (family : Family) (rows others : List Pair) (boxes : List (Row (Differing PackedValue)))
    → ArePackedDifferences family rows others old boxes → ArePackedDifferences family rows others new boxes
differences_still old new keeps family rows others boxes are = record {
  mine = are.mine;
  theirs = are.theirs;
  mine_are = entries_still old new keeps family rows are.mine are.mine_are;
  theirs_are = entries_still old new keeps family others are.theirs are.theirs_are;
  boxes_are = are.boxes_are;
}
