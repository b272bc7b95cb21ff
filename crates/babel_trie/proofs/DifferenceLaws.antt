-- Where two functions differ, a box of their difference is, and nowhere else.
use Rattle.std.proofs.Common.{◌≡◌, ◌⊎◌, inl, inr, ℕ, zero, suc, ◌^◌, ◌<◌, List, [], ◌∷◌, length, slice_index_or, Option, Some, None, Contains, refl, sym, ◌∙◌, ap, subst, arith}
use Rattle.std.proofs.lemmas.Bool.{cases_lt}
use Rattle.babel_prefix.specs.Covers.{BlockCovers}
use Rattle.babel_prefix.specs.Best.{Row}
use Rattle.babel_trie.specs.Boxes.{Answers, HasEqualityTest, IsBefore, IsBox, SameAnswers}
use Rattle.babel_trie.specs.Differences.{TellsApart, AreDifferences}
use Rattle.babel_trie.specs.DifferenceLaws.{NoneWhereSame, FirstHasLeast, DifferencesAreFewest}
use Rattle.babel_trie.specs.declared.differing.Differing.{Differing}
use Rattle.babel_trie.proofs.BoxLaws.{InABox, in_a_box, same_option}
use Rattle.babel_trie.proofs.Ranges.{covers_range}
use Rattle.babel_trie.proofs.TableLaws.{box_list_is_shortest}
use Rattle.babel_trie.proofs.TellLaws.{one_told}

module _ {V : Type 0} where
  -- answers that can be told apart make two answers that can be told apart
  pub differing_test : HasEqualityTest V → HasEqualityTest (Differing V)
  differing_test test a b = elim (same_option test a.left b.left) [
    | inl left ↦ elim (same_option test a.right b.right) [
      | inl right ↦ inl (
          ap (λ (l : Option V). let d : Differing V = record { left = l; right = a.right } in d) left
          ∙ ap (λ (r : Option V). let d : Differing V = record { left = b.left; right = r } in d) right)
      | inr never ↦ inr (λ e. never (ap (λ (d : Differing V). d.right) e))
    ]
    | inr never ↦ inr (λ e. never (ap (λ (d : Differing V). d.left) e))
  ]

  module _ (w : ℕ) (f g : Answers V) (boxes : List (Row (Differing V))) (are : AreDifferences w f g boxes) where
    -- at the start of a box the functions differ
    differ_at_start : (box : Row (Differing V)) → Contains boxes box → f box.dst.start box.src.start ≡ g box.dst.start box.src.start → ⊥
    differ_at_start box listed same =
        let b = (are.box_list.exact box).0 listed in
        let d_in = b.dst_is_prefix.start_in_range in
        let s_in = b.src_is_prefix.start_in_range in
        let here = are.is_difference box.dst.start box.src.start d_in s_in in
        let told = subst (TellsApart (f box.dst.start box.src.start) (g box.dst.start box.src.start)) (b.answered box.dst.start box.src.start d_in s_in refl refl) here in
        told.0 same

    -- where the functions differ a box is
    differ_in_box : HasEqualityTest V → (d s : ℕ) → d < 2 ^ w → s < 2 ^ w → (f d s ≡ g d s) ⊎ ((v : Differing V) × InABox w are.difference d s v)
    differ_in_box test d s d_in s_in = by (are.difference d s) refl
      where
        by : (told : Option (Differing V)) → are.difference d s ≡ told → (f d s ≡ g d s) ⊎ ((v : Differing V) × InABox w are.difference d s v)
        by None e = inl (subst (TellsApart (f d s) (g d s)) e (are.is_difference d s d_in s_in))
        by (Some v) e = inr (v, in_a_box (differing_test test) w are.difference d s v d_in s_in e)

pub none_where_same : {V : Type 0} → NoneWhereSame V
none_where_same {V} test w f g boxes are = (
  λ none d s d_in s_in. elim (differ_in_box w f g boxes are test d s d_in s_in) [
    | inl same ↦ same
    | inr found ↦ let listed = subst (λ bs. Contains bs found.1.box) none ((are.box_list.exact found.1.box).1 found.1.is_box) in absurd (omega (arith, listed.1))
  ],
  λ same. by boxes are same,
)
  where
    by : (all : List (Row (Differing V))) → AreDifferences w f g all → SameAnswers w f g → all ≡ []
    by [] these same = refl
    by (first ∷ rest) these same =
        let listed : Contains (first ∷ rest) first = (0, omega arith, refl) in
        let b = (these.box_list.exact first).0 listed in
        absurd (differ_at_start w f g (first ∷ rest) these first listed (same first.dst.start first.src.start b.dst_is_prefix.start_in_range b.src_is_prefix.start_in_range))

pub first_has_least : {V : Type 0} → FirstHasLeast V
first_has_least {V} test w f g first rest are dst src least = elim (differ_in_box w f g (first ∷ rest) are test dst src least.dst_in_range least.src_in_range) [
  | inl same ↦ absurd (least.differs same)
  | inr found ↦
      let b = found.1 in
      let listed = (are.box_list.exact b.box).1 b.is_box in
      by b.box b.is_box b.dst_in b.src_in listed.0 listed.1 listed.2
]
  where
    boxes : List (Row (Differing V))
    boxes = first ∷ rest

    first_listed : Contains (first ∷ rest) first
    first_listed = (0, omega arith, refl)

    by : (box : Row (Differing V)) → IsBox w are.difference box → BlockCovers w box.dst dst → BlockCovers w box.src src → (i : ℕ)
        → (i_in : i < length (first ∷ rest)) → slice_index_or (first ∷ rest) i box ≡ box →
        BlockCovers w first.dst dst × BlockCovers w first.src src
    by box is dst_in src_in zero i_in e = (subst (λ (r : Row (Differing V)). BlockCovers w r.dst dst) (sym e) dst_in, subst (λ (r : Row (Differing V)). BlockCovers w r.src src) (sym e) src_in)
    by box is dst_in src_in (suc i) i_in e =
        let before : IsBefore first box = subst (IsBefore first) e (are.box_list.in_order 0 (suc i) box (omega arith) i_in) in
        let b = (are.box_list.exact first).0 first_listed in
        let d_in = b.dst_is_prefix.start_in_range in
        let s_in = b.src_is_prefix.start_in_range in
        let differ = differ_at_start w f g (first ∷ rest) are first first_listed in
        let dst_from = (covers_range w box.dst dst is.dst_is_prefix dst_in).0 in
        let src_from = (covers_range w box.src src is.src_is_prefix src_in).0 in
        elim before [
          | inl lower ↦ absurd (differ (least.same_below first.dst.start first.src.start d_in s_in (inl (omega (arith, lower, dst_from)))))
          | inr both ↦ elim (cases_lt first.dst.start dst) [
            | inl lt ↦ absurd (differ (least.same_below first.dst.start first.src.start d_in s_in (inl lt)))
            | inr ge ↦ absurd (differ (least.same_below first.dst.start first.src.start d_in s_in (inr (omega (arith, both.0, dst_from, ge), omega (arith, both.1, src_from)))))
          ]
        ]

pub differences_are_fewest : {V : Type 0} → DifferencesAreFewest V
differences_are_fewest w f g boxes rows difference are is t =
    box_list_is_shortest w are.difference rows boxes
    (record {
      prefixes = t.prefixes;
      destinations = t.destinations;
      pairs = t.pairs;
      answers = λ d s d_in s_in. t.answers d s d_in s_in ∙ one_told (f d s) (g d s) (difference d s) (are.difference d s) (is d s d_in s_in) (are.is_difference d s d_in s_in);
    })
    are.box_list
