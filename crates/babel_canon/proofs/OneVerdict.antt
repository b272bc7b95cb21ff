-- Two tables have one verdict.
use Rattle.std.proofs.Common.{◌≡◌, ℕ, List, Option, refl, sym, ap, ◌∙◌, inl, inr}
use Rattle.std.specs.Prelude.{◌⊎◌}
use Rattle.std.proofs.lemmas.Bool.{cases_order}
use Rattle.babel_prefix.specs.declared.family.Family.{Family}
use Rattle.babel_prefix.specs.declared.family.Family.TheVariants.{V4, V6}
use Rattle.babel_prefix.specs.Order.{family_rank}
use Rattle.babel_prefix.specs.Address.{Address}
use Rattle.babel_prefix.specs.Entries.{answer_for}
use Rattle.babel_tlv.specs.declared.held.Held.{Held}
use Rattle.babel_tlv.specs.Pair.{Pair}
use Rattle.babel_table.specs.Rows.{entries_of}
use Rattle.babel_canon.specs.Answers.{AnswerTheSame}
use Rattle.babel_canon.specs.Verdict.{IsLower, IsLeastDifference}
use Rattle.babel_canon.specs.OneOutcome.{VerdictIsOne}
use Rattle.babel_canon.specs.declared.verdict.Verdict.TheVariants as verdicts

-- ---- of two places one is lower, or they are one

address_is : (a b : Address) → a.family ≡ b.family → a.bits ≡ b.bits → a ≡ b
address_is a b family bits =
    ap (λ (f : Family). let x : Address = record { family = f; bits = a.bits } in x) family
    ∙ ap (λ (n : ℕ). let x : Address = record { family = b.family; bits = n } in x) bits

rank_one : (f g : Family) → family_rank f ≡ family_rank g → f ≡ g
rank_one V4 V4 e = refl
rank_one V4 V6 e = absurd cc
rank_one V6 V4 e = absurd cc
rank_one V6 V6 e = refl

lower_or_one : (d s e t : Address) → d.family ≡ s.family → e.family ≡ t.family → (IsLower d s e t ⊎ IsLower e t d s) ⊎ ((d ≡ e) × (s ≡ t))
lower_or_one d s e t d_of e_of =
    elim (cases_order (family_rank d.family) (family_rank e.family)) [
      | inr (inl lt) ↦ inl (inl (inl lt))
      | inr (inr gt) ↦ inl (inr (inl gt))
      | inl rank ↦
          let family = rank_one d.family e.family rank in
          elim (cases_order d.bits e.bits) [
            | inr (inl lt) ↦ inl (inl (inr (family, inl lt)))
            | inr (inr gt) ↦ inl (inr (inr (sym family, inl gt)))
            | inl bits ↦ elim (cases_order s.bits t.bits) [
              | inr (inl lt) ↦ inl (inl (inr (family, inr (bits, lt))))
              | inr (inr gt) ↦ inl (inr (inr (sym family, inr (sym bits, gt))))
              | inl source ↦ inr (address_is d e family bits, address_is s t (sym d_of ∙ family ∙ e_of) source)
            ]
          ]
    ]

-- ---- the least difference is one

module _ (rows others : List Pair) where
  -- the answers are not the same at a least difference
  differ_there : (d s : Address) (left right : Option Held) → IsLeastDifference rows others d s left right → answer_for (entries_of rows) d s ≡ answer_for (entries_of others) d s → ⊥
  differ_there d s left right least same = least.differs (least.left_is ∙ same ∙ sym least.right_is)

  not_lower : (d s e t : Address) (left right left_too right_too : Option Held) → IsLeastDifference rows others d s left right
      → IsLeastDifference rows others e t left_too right_too → IsLower d s e t → ⊥
  not_lower d s e t left right left_too right_too one two lower =
      differ_there d s left right one (two.same_below d s one.dst_fits one.src_fits one.one_family lower)

  not_same : (d s : Address) (left right : Option Held) → IsLeastDifference rows others d s left right → AnswerTheSame rows others → ⊥
  not_same d s left right least same = differ_there d s left right least (same d s least.dst_fits least.src_fits least.one_family)

  one_place : (d s e t : Address) (left right left_too right_too : Option Held) → IsLeastDifference rows others d s left right → IsLeastDifference rows others e t left_too right_too
      → verdicts.Differ d s left right ≡ verdicts.Differ e t left_too right_too
  one_place d s e t left right left_too right_too one two =
      elim (lower_or_one d s e t one.one_family two.one_family) [
        | inl (inl lower) ↦ absurd (not_lower d s e t left right left_too right_too one two lower)
        | inl (inr higher) ↦ absurd (not_lower e t d s left_too right_too left right two one higher)
        | inr place ↦
            let dst = place.0 in
            let src = place.1 in
            let left_is : left ≡ left_too = one.left_is ∙ ap (λ (a : Address). answer_for (entries_of rows) a s) dst ∙ ap (answer_for (entries_of rows) e) src ∙ sym two.left_is in
            let right_is : right ≡ right_too = one.right_is ∙ ap (λ (a : Address). answer_for (entries_of others) a s) dst ∙ ap (answer_for (entries_of others) e) src ∙ sym two.right_is in
            cc
      ]

pub verdict_is_one : VerdictIsOne
verdict_is_one rows others verdicts.Same verdicts.Same one two = refl
verdict_is_one rows others verdicts.Same (verdicts.Differ d s left right) one two = absurd (not_same rows others d s left right two one)
verdict_is_one rows others (verdicts.Differ d s left right) verdicts.Same one two = absurd (not_same rows others d s left right one two)
verdict_is_one rows others (verdicts.Differ d s left right) (verdicts.Differ e t left_too right_too) one two = one_place rows others d s e t left right left_too right_too one two
