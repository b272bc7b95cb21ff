-- Differences of both families.
use Rattle.std.proofs.Common.{◌≡◌, ◌<◌, ◌^◌, List, Option, Some, None, refl, sym, subst, ◌∙◌, arith, inl, inr}
use Rattle.std.specs.Prelude.{◌≢◌}
use Rattle.babel_prefix.specs.declared.family.Family.{Family}
use Rattle.babel_prefix.specs.declared.family.Family.TheVariants.{V4, V6}
use Rattle.babel_prefix.specs.Width.{width_of}
use Rattle.babel_prefix.specs.Order.{family_rank}
use Rattle.babel_prefix.specs.Address.{Address, IsAddress}
use Rattle.babel_prefix.specs.Entries.{answers_in, answer_for}
use Rattle.babel_trie.specs.Boxes.{IsLeastDifference as IsLeastPair}
use Rattle.babel_tlv.specs.Pair.{Pair}
use Rattle.babel_table.specs.Rows.{entries_of}
use Rattle.babel_canon.specs.Verdict.{IsLower}
use Rattle.babel_canon.specs.FirstDifference.{IsFirstDifference, IsFirstInFamily, IsLeastInFamily, SameInFamily}

module _ (rows others : List Pair) where
  pub same_for : (d s : Address) → SameInFamily d.family rows others → IsAddress d → IsAddress s → d.family ≡ s.family → answer_for (entries_of rows) d s ≡ answer_for (entries_of others) d s
  same_for d s same d_fits s_fits one_family = same d.bits s.bits d_fits (subst (λ (f : Family). s.bits < 2 ^ width_of f) (sym one_family) s_fits)

  -- the least difference in a family, where the families before it answer the same
  differ_in : (family : Family) (dst src : Address) → ((before : Family) → family_rank before < family_rank family → SameInFamily before rows others)
      → IsLeastInFamily family rows others dst src → IsFirstDifference rows others (Some (dst, src))
  differ_in family dst src before least_in =
      record {
        dst_fits = least.dst_in_range;
        src_fits = subst (λ (f : Family). src.bits < 2 ^ width_of f) (least_in.dst_of ∙ sym least_in.src_of) least.src_in_range;
        one_family = least_in.dst_of ∙ sym least_in.src_of;
        left_is = refl;
        right_is = refl;
        differs = least.differs;
        same_below = below;
      }
    where
      least : IsLeastPair (width_of dst.family) (answers_in dst.family (entries_of rows)) (answers_in dst.family (entries_of others)) dst.bits src.bits
      least = subst (λ (f : Family). IsLeastPair (width_of f) (answers_in f (entries_of rows)) (answers_in f (entries_of others)) dst.bits src.bits) (sym least_in.dst_of) least_in.least

      below : (d s : Address) → IsAddress d → IsAddress s → d.family ≡ s.family → IsLower d s dst src → answer_for (entries_of rows) d s ≡ answer_for (entries_of others) d s
      below d s d_fits s_fits one_family (inl lower) =
          same_for d s (before d.family (subst (λ (f : Family). family_rank d.family < family_rank f) least_in.dst_of lower)) d_fits s_fits one_family
      below d s d_fits s_fits one_family (inr (same_family, lower)) =
          let d_in : d.bits < 2 ^ width_of dst.family = subst (λ (f : Family). d.bits < 2 ^ width_of f) same_family d_fits in
          let s_in : s.bits < 2 ^ width_of dst.family = subst (λ (f : Family). s.bits < 2 ^ width_of f) (sym one_family ∙ same_family) s_fits in
          subst (λ (f : Family). answers_in f (entries_of rows) d.bits s.bits ≡ answers_in f (entries_of others) d.bits s.bits) (sym same_family)
          (least.same_below d.bits s.bits d_in s_in lower)

  -- IPv4 answers the same: the difference in IPv6 is that of both
  pub difference_v6 : (found : Option (Address × Address)) → SameInFamily V4 rows others → IsFirstInFamily V6 rows others found → IsFirstDifference rows others found
  difference_v6 None v4 v6 = λ d s. same_for d s (here d.family)
    where
      here : (family : Family) → SameInFamily family rows others
      here V4 = v4
      here V6 = v6
  difference_v6 (Some (dst, src)) v4 least = differ_in V6 dst src before least
    where
      before : (family : Family) → family_rank family < family_rank V6 → SameInFamily family rows others
      before V4 lt = v4
      before V6 lt = absurd (omega (arith, lt))

  -- a difference in IPv4 is that of both
  pub difference_v4 : (found : Option (Address × Address)) → found ≢ None → IsFirstInFamily V4 rows others found → IsFirstDifference rows others found
  difference_v4 None some same = absurd (some refl)
  difference_v4 (Some (dst, src)) some least = differ_in V4 dst src before least
    where
      before : (family : Family) → family_rank family < family_rank V4 → SameInFamily family rows others
      before V4 lt = absurd (omega (arith, lt))
      before V6 lt = absurd (omega (arith, lt))
