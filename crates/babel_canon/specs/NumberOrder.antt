-- Packed values that compare as equal are one: this project's own.
use Rattle.std.specs.Prelude.{◌≡◌, ℕ}
use Rattle.std.specs.Ordering.{nat_cmp, ordering_then}
use Rattle.std.specs.declared.cmp.Ordering.TheVariants.{Equal}
use Rattle.std.proofs.Common.{ap, ◌∙◌}
use Rattle.std.proofs.lemmas.Map.Lookups.{exact_unsigned}
use Rattle.babel_prefix.proofs.OrderLaws.{then_parts}
use Rattle.babel_canon.specs.declared.values.PackedValue.{PackedValue}

-- the parts one by one
pub same_packed : (a b : PackedValue) → a.origin ≡ b.origin → a.seqno ≡ b.seqno →
    a.metric ≡ b.metric → a ≡ b
same_packed a b p q r =
    ap (λ (n : ℕ).
    let v : PackedValue = record { origin = n; seqno = a.seqno; metric = a.metric } in v) p
    ∙ ap (λ (n : ℕ).
    let v : PackedValue = record { origin = b.origin; seqno = n; metric = a.metric } in v) q
    ∙ ap (λ (n : ℕ).
    let v : PackedValue = record { origin = b.origin; seqno = b.seqno; metric = n } in v) r

pub packed_exact : (a b : PackedValue) →
    ordering_then (nat_cmp a.origin b.origin)
    (ordering_then (nat_cmp a.seqno b.seqno) (nat_cmp a.metric b.metric)) ≡ Equal → a ≡ b
packed_exact a b e =
    let first = then_parts (nat_cmp a.origin b.origin)
    (ordering_then (nat_cmp a.seqno b.seqno) (nat_cmp a.metric b.metric)) e in
    let rest = then_parts (nat_cmp a.seqno b.seqno) (nat_cmp a.metric b.metric) first.1 in
    same_packed a b (exact_unsigned a.origin b.origin first.0)
    (exact_unsigned a.seqno b.seqno rest.0) (exact_unsigned a.metric b.metric rest.1)
