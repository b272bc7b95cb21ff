-- How many rows spans have.
use Rattle.std.proofs.Common.{◌≡◌, inl, inr, ℕ, ◌-◌, ◌*◌, ◌^◌, ◌≤◌, List, [], ◌∷◌, length, Option, refl, sym, ◌∙◌, ap, arith}
use Rattle.std.proofs.lemmas.Bool.{cases_lt}
use Rattle.std.proofs.lemmas.List.{length-append}
use Rattle.std.proofs.Math.Nat.{mul-le-mul_left, mul-le-mul_right, zero-mul}
use Rattle.babel_prefix.specs.Block.{Block}
use Rattle.babel_prefix.proofs.Members.{Listed}
use Rattle.babel_trie.specs.Counts.{capped, value_count, sources_count, AreCounted}
use Rattle.babel_trie.specs.Cut.{largest_in}
use Rattle.babel_trie.specs.Held.{sources_at}
use Rattle.babel_trie.specs.Interned.{HasTrie}
use Rattle.babel_trie.specs.Nested.{leaves, rows_at, rows_of}
use Rattle.babel_trie.specs.Shape.{Shape}
use Rattle.babel_trie.specs.Spans.{Span, each_with, span_blocks, counted_rows, span_rows}
use Rattle.babel_trie.specs.declared.table.Node.{Node}
use Rattle.babel_trie.specs.declared.table.Sources.{Sources}
use Rattle.babel_trie.proofs.CountLaws.{rows_at-values}
use Rattle.babel_trie.proofs.HeldLaws.{sources_at-stands}
use Rattle.babel_trie.proofs.ListLaws.{rows_of-append}
use Rattle.babel_trie.proofs.FormLaws.{Represents-in}

-- a product with a count that stopped stops too
capped_product : (n x y : ℕ) → x ≡ capped y → capped (n * x) ≡ capped (n * y)
capped_product n x y e =
    elim (cases_lt y (2 ^ 64)) [
      | inl small ↦ let same : x ≡ y = omega arith in ap (λ k. capped (n * k)) same
      | inr large ↦ elim (cases_lt 0 n) [
        | inl some ↦
            let m : ℕ = 2 ^ 64 - 1 in
            let is : x ≡ m = omega arith in
            let one : 1 * m ≤ n * m = mul-le-mul_right m some in
            let more : n * m ≤ n * y = mul-le-mul_left n (omega arith) in
            let here : n * x ≡ n * m = ap (λ k. n * k) is in
            omega arith
        | inr none ↦ let zero_is : n ≡ 0 = omega arith in ap (λ k. capped (k * x)) zero_is ∙ ap capped (zero-mul x ∙ sym (zero-mul y)) ∙ sym (ap (λ k. capped (k * y)) zero_is)
      ]
    ]

module _ {V : Type 0} (w : ℕ) where
  -- each block has as many rows
  each_rows : (t : Shape (Option V)) (bs : List Block) → length (rows_of w (each_with t bs)) ≡ length bs * value_count t
  each_rows t [] = omega arith
  each_rows t (b ∷ bs) =
      let both = length-append (rows_at b (leaves w w 0 t)) (rows_of w (each_with t bs)) in
      omega (arith, both, rows_at-values b w w 0 t, each_rows t bs)

  -- the rows of the spans are as many as the counts of the nodes say
  pub counted_spans : (sources : List (Node (Option V))) (counts : List ℕ) → AreCounted sources (length sources) counts
      → (ss : List (Span (Sources (Option V)))) → ((s : Span (Sources (Option V))) → Listed ss s → HasTrie w sources s.sources) →
      capped (counted_rows w counts ss) ≡ capped (length (span_rows w sources ss))
  counted_spans sources counts counted [] each = refl
  counted_spans sources counts counted (s ∷ ss) each =
      let h = each s (inl refl) in
      let blocks = largest_in w s.from s.last in
      let t : Shape (Option V) = sources_at w sources s.sources in
      let one : sources_count counts s.sources ≡ capped (value_count t) =
      counted.each s.sources h.trie (Represents-in sources s.sources h.trie h.stands) h.stands ∙ ap (λ u. capped (value_count u)) (sym (sources_at-stands w sources s.sources h)) in
      let here = capped_product (length blocks) (sources_count counts s.sources) (value_count t) one in
      let rows = each_rows t blocks in
      let rest = counted_spans sources counts counted ss (λ r u. each r (inr u)) in
      let both = ap length (rows_of-append w (each_with t blocks) (span_blocks w (sources_at w sources) ss)) ∙ length-append (rows_of w (each_with t blocks)) (span_rows w sources ss) in
      omega (arith, here, rows, rest, both)
