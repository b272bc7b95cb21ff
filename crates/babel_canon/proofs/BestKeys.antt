-- The most specific of the keys that contain two addresses.
use Rattle.std.proofs.Common.{◌≡◌, ◌⊎◌, inl, inr, ℕ, ◌-◌, ◌*◌, ◌/◌, ◌^◌}
use Rattle.std.proofs.Common.{List, [], ◌∷◌, ◌++◌, Option, Some, None, sym, ap, subst, ◌∙◌}
use Rattle.std.proofs.Common.{arith, append_assoc}
use Rattle.std.proofs.lemmas.Bool.{cases_lt, cases_order}
use Rattle.std.proofs.lemmas.List.{append-nil}
use Rattle.std.proofs.Math.Nat.{div-add-mod'}
use Rattle.babel_prefix.specs.declared.family.Family.{Family}
use Rattle.babel_prefix.specs.Width.{width_of}
use Rattle.babel_prefix.specs.Block.{block_at, leading_bits}
use Rattle.babel_prefix.specs.Address.{Address, AddressPrefix, prefix_of, prefix_at}
use Rattle.babel_prefix.specs.Covers.{Covers}
use Rattle.babel_tlv.specs.Pair.{Pair}
use Rattle.babel_tlv.specs.Route.{RouteKey}
use Rattle.babel_table.specs.BestMatch.{ContainsBoth, IsMoreSpecific}
use Rattle.babel_table.specs.Lookup.{IsBetter}
use Rattle.babel_table.proofs.EntryLaws.{same_key as key_is}
use Rattle.babel_table.specs.RowFor.{IsBestOf}
use Rattle.babel_table.proofs.StandingLaws.{better, no_better}
use Rattle.babel_canon.proofs.Boxes.{same_or_not}
use Rattle.babel_canon.proofs.CleanKeys.{IsClean, AreClean}

-- ---- clean prefixes

-- a clean prefix that has an address is the one of its length that has it
clean-is : (p : AddressPrefix) (a : Address) → IsClean p → Covers p a → p ≡ prefix_at p.len a
clean-is p a clean covers =
    let w = width_of p.address.family in
    let n : ℕ = 2 ^ (w - p.len) in
    let start : p.address.bits ≡ p.address.bits / n * n =
    omega (arith, div-add-mod' p.address.bits n, clean) in
    ap (λ (b : ℕ). record { address = record { family = p.address.family; bits = b }; len = p.len })
    (start ∙ ap (λ (q : ℕ). q * n) (sym covers.1))
    ∙ ap (λ (f : Family). prefix_of f (block_at (width_of f) p.len a.bits)) covers.0

-- clean prefixes of one length with a common address are one
pub clean_one : (p q : AddressPrefix) (a : Address) → IsClean p → IsClean q → Covers p a
    → Covers q a → p.len ≡ q.len → p ≡ q
clean_one p q a p_clean q_clean p_covers q_covers same =
    clean-is p a p_clean p_covers ∙ ap (λ (l : ℕ). prefix_at l a) same
    ∙ sym (clean-is q a q_clean q_covers)

-- ---- more specific keys

either_specific : (a b : RouteKey) → IsMoreSpecific a b ⊎ ¬ IsMoreSpecific a b
either_specific a b =
    elim (cases_order a.dst.len b.dst.len) [
      | inr (inr longer) ↦ inl (inl longer)
      | inr (inl shorter) ↦ inr (λ more. elim more [ inl lt ↦ omega (arith, shorter, lt) | inr equal ↦ omega (arith, shorter, equal.0) ])
      | inl same ↦ elim (cases_lt b.src.len a.src.len) [
        | inl longer ↦ inl (inr (same, longer))
        | inr ge ↦ inr (λ more. elim more [ inl lt ↦ omega (arith, same, lt) | inr longer ↦ omega (arith, ge, longer.1) ])
      ]
    ]

-- clean keys that contain two addresses, neither of them more specific, are one
pub key_one : (d s : Address) (a b : RouteKey) → AreClean a → AreClean b → ContainsBoth d s a
    → ContainsBoth d s b → ¬ IsMoreSpecific a b → ¬ IsMoreSpecific b a → a ≡ b
key_one d s a b a_clean b_clean a_both b_both not_a not_b =
    let dst : a.dst.len ≡ b.dst.len = elim (cases_order a.dst.len b.dst.len) [
      | inl same ↦ same
      | inr (inl shorter) ↦ absurd (not_b (inl shorter))
      | inr (inr longer) ↦ absurd (not_a (inl longer))
    ] in
    let src : a.src.len ≡ b.src.len = elim (cases_order a.src.len b.src.len) [
      | inl same ↦ same
      | inr (inl shorter) ↦ absurd (not_b (inr (sym dst, shorter)))
      | inr (inr longer) ↦ absurd (not_a (inr (dst, longer)))
    ] in
    key_is a b (clean_one a.dst b.dst d a_clean.0 b_clean.0 a_both.0 b_both.0 dst)
    (clean_one a.src b.src s a_clean.1 b_clean.1 a_both.1 b_both.1 src)

-- ---- the most specific of some rows

either_covers : (p : AddressPrefix) (a : Address) → Covers p a ⊎ ¬ Covers p a
either_covers p a =
    let w = width_of p.address.family in
    elim (same_or_not p.address.family a.family) [
      | inl same ↦ elim (cases_order (leading_bits w p.len a.bits) (leading_bits w p.len p.address.bits)) [
        | inl is ↦ inl (same, is)
        | inr (inl lt) ↦ inr (λ c. omega (arith, lt, c.1))
        | inr (inr gt) ↦ inr (λ c. omega (arith, gt, c.1))
      ]
      | inr not ↦ inr (λ c. not c.0)
    ]

either_contains : (d s : Address) (key : RouteKey) → ContainsBoth d s key ⊎ ¬ ContainsBoth d s key
either_contains d s key =
    elim (either_covers key.dst d) [
      | inl dst ↦ elim (either_covers key.src s) [ inl src ↦ inl (dst, src) | inr not ↦ inr (λ both. not both.1) ]
      | inr not ↦ inr (λ both. not both.0)
    ]

either_better : (d s : Address) (row : Pair) (best : Option Pair)
    → IsBetter d s row.0 best ⊎ ¬ IsBetter d s row.0 best
either_better d s row best =
    elim (either_contains d s row.0) [
      | inl both ↦ by best both
      | inr not ↦ inr (λ better. not better.0)
    ]
  where
    by : (best : Option Pair) → ContainsBoth d s row.0
        → IsBetter d s row.0 best ⊎ ¬ IsBetter d s row.0 best
    by None both = inl (both, tt)
    by (Some b) both = elim (either_specific row.0 b.0) [
      | inl more ↦ inl (both, more)
      | inr not ↦ inr (λ better. not better.1)
    ]

best_from : (d s : Address) (seen later : List Pair) (best : Option Pair) → IsBestOf seen d s best
    → (now : Option Pair) × IsBestOf (seen ++ later) d s now
best_from d s seen [] best is =
    (best, subst (λ (rows : List Pair). IsBestOf rows d s best) (sym (append-nil seen)) is)
best_from d s seen (row ∷ later) best is =
    let joined : (seen ++ row ∷ []) ++ later ≡ seen ++ row ∷ later = append_assoc seen (row ∷ []) later in
    let found : (now : Option Pair) × IsBestOf ((seen ++ row ∷ []) ++ later) d s now =
    elim (either_better d s row best) [
      | inl more ↦ best_from d s (seen ++ row ∷ []) later (Some row) (better seen d s row best is more)
      | inr not ↦ best_from d s (seen ++ row ∷ []) later best (no_better seen d s row best is not)
    ] in
    (found.0, subst (λ (rows : List Pair). IsBestOf rows d s found.0) joined found.1)

-- rows have a best one, or none matches
pub best_of : (rows : List Pair) (d s : Address) → (best : Option Pair) × IsBestOf rows d s best
best_of rows d s = best_from d s [] rows None (λ key held c. absurd (omega (arith, c.1)))
