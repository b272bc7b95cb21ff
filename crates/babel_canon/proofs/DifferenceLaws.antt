-- The differences of both families: none where the answers are the same, and none fewer.
use Rattle.std.proofs.Common.{◌≡◌, inl, inr, ◌^◌, ◌<◌, Option, List, [], ◌∷◌, ◌++◌, length, map, refl, sym, ◌∙◌, ap, subst, arith}
use Rattle.babel_prefix.specs.declared.family.Family.{Family}
use Rattle.babel_prefix.specs.declared.family.Family.TheVariants.{V4, V6}
use Rattle.babel_prefix.specs.Width.{width_of}
use Rattle.babel_prefix.specs.Order.{family_rank}
use Rattle.babel_prefix.specs.Address.{Address}
use Rattle.babel_prefix.specs.Best.{Row}
use Rattle.babel_prefix.specs.Entries.{answers_in}
use Rattle.babel_trie.specs.Boxes.{IsLeastDifference as IsLeastPair}
use Rattle.babel_table.specs.BestMatch.{ContainsBoth}
use Rattle.babel_trie.specs.declared.differing.Differing.{Differing}
use Rattle.babel_tlv.specs.declared.held.Held.{Held}
use Rattle.babel_tlv.specs.Pair.{Pair}
use Rattle.babel_table.specs.Rows.{entries_of}
use Rattle.babel_table.proofs.SaidLaws.{no_more}
use Rattle.babel_canon.specs.Differences.{AreFamilyDifferences, difference_at}
use Rattle.babel_canon.specs.DifferenceLaws.{DifferencesAreFewest, FirstHasLeast, NoneWhereSame}
use Rattle.babel_canon.specs.Verdict.{IsLeastDifference}
use Rattle.babel_canon.specs.FirstDifference.{SameInFamily}
use Rattle.babel_canon.specs.declared.every_difference.Difference.{Difference}
use Rattle.babel_canon.proofs.Boxes.{held_test, same_in}
use Rattle.babel_canon.proofs.DifferenceLists.{differences-length}
use Rattle.babel_canon.proofs.Verdicts.{same_for}
use Rattle.babel_trie.proofs.DifferenceLaws.{none_where_same as none_in_family, first_has_least as first_in_family, differences_are_fewest as fewest_in_family}

pub none_where_same : NoneWhereSame
none_where_same rows others differences are = (
  λ none d s d_fits s_fits one_family.
      let count = sym (ap length none) ∙ ap length are.whole ∙ differences-length are.v4 are.v6 in
      same_for rows others d s (in_family (no_more are.v4 (omega (arith, count))) (no_more are.v6 (omega (arith, count))) d.family) d_fits s_fits one_family,
  λ same.
      let v4 = (none_in_family held_test (width_of V4) (answers_in V4 (entries_of rows)) (answers_in V4 (entries_of others)) are.v4 are.v4_boxes).1 (same_in rows others same V4) in
      let v6 = (none_in_family held_test (width_of V6) (answers_in V6 (entries_of rows)) (answers_in V6 (entries_of others)) are.v6 are.v6_boxes).1 (same_in rows others same V6) in
      no_more differences (omega (arith, ap length are.whole, differences-length are.v4 are.v6, ap length v4, ap length v6)),
)
  where
    in_family : are.v4 ≡ [] → are.v6 ≡ [] → (family : Family) → SameInFamily family rows others
    in_family v4 v6 V4 = (none_in_family held_test (width_of V4) (answers_in V4 (entries_of rows)) (answers_in V4 (entries_of others)) are.v4 are.v4_boxes).0 v4
    in_family v4 v6 V6 = (none_in_family held_test (width_of V6) (answers_in V6 (entries_of rows)) (answers_in V6 (entries_of others)) are.v6 are.v6_boxes).0 v6

pub differences_are_fewest : DifferencesAreFewest
differences_are_fewest rows others differences are told is v4 v6 v4_table v6_table =
    let first = fewest_in_family (width_of V4) (answers_in V4 (entries_of rows)) (answers_in V4 (entries_of others)) are.v4 v4 (told V4) are.v4_boxes (is V4) v4_table in
    let second = fewest_in_family (width_of V6) (answers_in V6 (entries_of rows)) (answers_in V6 (entries_of others)) are.v6 v6 (told V6) are.v6_boxes (is V6) v6_table in
    omega (arith, ap length are.whole, differences-length are.v4 are.v6, first, second)

-- no pair of a family differs below the least difference of a later family
same_before : (rows others : List Pair) (family : Family) (dst src : Address) (left right : Option Held)
    → IsLeastDifference rows others dst src left right → family_rank family < family_rank dst.family → SameInFamily family rows others
same_before rows others family dst src left right least lower d s d_in s_in =
    least.same_below (record { family = family; bits = d }) (record { family = family; bits = s }) d_in s_in refl (inl lower)

-- the least difference is the least one in its family
least_in_family : (rows others : List Pair) (dst src : Address) (left right : Option Held) → IsLeastDifference rows others dst src left right →
    IsLeastPair (width_of dst.family) (answers_in dst.family (entries_of rows)) (answers_in dst.family (entries_of others)) dst.bits src.bits
least_in_family rows others dst src left right least = record {
  dst_in_range = least.dst_fits;
  src_in_range = subst (λ (f : Family). src.bits < 2 ^ width_of f) (sym least.one_family) least.src_fits;
  differs = λ same. least.differs (least.left_is ∙ same ∙ sym least.right_is);
  same_below = λ d s d_in s_in lower. least.same_below (record { family = dst.family; bits = d }) (record { family = dst.family; bits = s }) d_in s_in refl (inr (refl, lower));
}

-- the first of two lists, end to end
pub first_has_least : FirstHasLeast
first_has_least rows others first rest are dst src left right least =
    by dst.family are.v4 are.v6 are.v4_boxes are.v6_boxes are.whole (subst (λ (f : Family).
    IsLeastDifference rows others (record { family = dst.family; bits = dst.bits }) (record { family = f; bits = src.bits }) left right) (sym least.one_family) least) least.one_family
  where
    by : (f : Family) (v4 v6 : List (Row (Differing Held))) → AreFamilyDifferences V4 rows others v4
        → AreFamilyDifferences V6 rows others v6 → first ∷ rest ≡ map (difference_at V4) v4 ++ map (difference_at V6) v6 →
        IsLeastDifference rows others (record { family = f; bits = dst.bits }) (record { family = f; bits = src.bits }) left right → f ≡ src.family →
        ContainsBoth (record { family = f; bits = dst.bits }) (record { family = src.family; bits = src.bits }) first.key
    by V4 [] v6 v4_are v6_are whole here one =
        let same = (none_in_family held_test (width_of V4) (answers_in V4 (entries_of rows)) (answers_in V4 (entries_of others)) [] v4_are).0 refl in
        let pair = least_in_family rows others (record { family = V4; bits = dst.bits }) (record { family = V4; bits = src.bits }) left right here in
        absurd (pair.differs (same dst.bits src.bits pair.dst_in_range pair.src_in_range))
    by V4 (box ∷ boxes) v6 v4_are v6_are whole here one =
        let pair = least_in_family rows others (record { family = V4; bits = dst.bits }) (record { family = V4; bits = src.bits }) left right here in
        let covers = first_in_family held_test (width_of V4) (answers_in V4 (entries_of rows)) (answers_in V4 (entries_of others)) box boxes v4_are dst.bits src.bits pair in
        let is : first ≡ difference_at V4 box = cc in
        subst (λ (x : Difference). ContainsBoth (record { family = V4; bits = dst.bits }) (record { family = src.family; bits = src.bits }) x.key) (sym is) ((refl, covers.0), (one, covers.1))
    by V6 (box ∷ boxes) v6 v4_are v6_are whole here one =
        let same = same_before rows others V4 (record { family = V6; bits = dst.bits }) (record { family = V6; bits = src.bits }) left right here (omega arith) in
        let none = (none_in_family held_test (width_of V4) (answers_in V4 (entries_of rows)) (answers_in V4 (entries_of others)) (box ∷ boxes) v4_are).1 same in
        absurd (omega (arith, ap length none))
    by V6 [] [] v4_are v6_are whole here one = absurd (omega (arith, ap length whole))
    by V6 [] (box ∷ boxes) v4_are v6_are whole here one =
        let pair = least_in_family rows others (record { family = V6; bits = dst.bits }) (record { family = V6; bits = src.bits }) left right here in
        let covers = first_in_family held_test (width_of V6) (answers_in V6 (entries_of rows)) (answers_in V6 (entries_of others)) box boxes v6_are dst.bits src.bits pair in
        let is : first ≡ difference_at V6 box = cc in
        subst (λ (x : Difference). ContainsBoth (record { family = V6; bits = dst.bits }) (record { family = src.family; bits = src.bits }) x.key) (sym is) ((refl, covers.0), (one, covers.1))
