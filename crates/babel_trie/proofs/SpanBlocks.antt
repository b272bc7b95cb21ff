-- The largest blocks of each span of a list of changes.
use Rattle.std.proofs.Common.{◌≡◌, inl, inr, ℕ, ◌-◌, ◌^◌, ◌<◌, ◌≤◌, cond, nat_le, List, [], ◌∷◌, ◌++◌, length, refl, ◌∙◌, ap, subst, arith}
use Rattle.babel_prefix.specs.Block.{Block}
use Rattle.babel_prefix.proofs.Members.{Listed, Contains-from_Listed, Listed-append_left, Listed-append_right, Listed-append_cases}
use Rattle.babel_trie.specs.Cut.{IsLargestIn, StartsBefore, largest_in}
use Rattle.babel_trie.specs.Runs.{said_at}
use Rattle.babel_trie.specs.Spans.{Span, start_or, spans, each_with, span_blocks}
use Rattle.babel_trie.specs.declared.runs.Change.{Change}
use Rattle.babel_trie.proofs.ApartLaws.{said-before}
use Rattle.babel_trie.proofs.Largest.{largest_are_in, largest_in_order}
use Rattle.babel_trie.proofs.Leaves.{StartsBelow}
use Rattle.babel_trie.proofs.Lists.{InOrder, InOrder-append}
use Rattle.babel_trie.proofs.Ranges.{start_covered}
use Rattle.babel_trie.proofs.RunLaws.{reached}
use Rattle.babel_trie.proofs.SpanLaws.{IsRising, spans_from}

-- what holds of a list without a member holds of the empty list
pub none_left : {X : Type 0} (xs : List X) → length xs ≡ 0 → (P : List X → Type 0) → P xs → P []
none_left [] none P p = p
none_left (x ∷ xs) none P p = absurd (omega arith)

module _ {F : Type 0} where
  -- the first change is before the end, and the others behind it
  pub start_within : (end : ℕ) (runs : List (Change F)) → IsRising end runs → start_or end runs ≤ end
  start_within end [] rising = omega arith
  start_within end (run ∷ runs) rising = omega (arith, rising.0, start_within end runs rising.1)

  pub starts_from : (end : ℕ) (runs : List (Change F)) → IsRising end runs → (x : Change F) → Listed runs x → start_or end runs ≤ x.start
  starts_from end [] rising x t = elim t [ ]
  starts_from end (run ∷ runs) rising x (inl e) = subst (λ (y : Change F). run.start ≤ y.start) e (omega arith)
  starts_from end (run ∷ runs) rising x (inr t) = omega (arith, rising.0, starts_from end runs rising.1 x t)

  -- each span has an address, and ends before the end
  pub span_range : (end : ℕ) (runs : List (Change F)) → IsRising end runs → (s : Span F) → Listed (spans end runs) s → (s.from ≤ s.last) × (s.last < end)
  span_range end [] rising s t = elim t [ ]
  span_range end (run ∷ runs) rising s (inl e) =
      let up : run.start < start_or end runs = rising.0 in
      subst (λ (x : Span F). (x.from ≤ x.last) × (x.last < end)) e (omega arith, omega (arith, start_within end runs rising.1))
  span_range end (run ∷ runs) rising s (inr t) = span_range end runs rising.1 s t

  -- each change has a span
  pub change_span : (end : ℕ) (runs : List (Change F)) (x : Change F) → Listed runs x → (s : Span F) × Listed (spans end runs) s × (s.sources ≡ x.sources)
  change_span end [] x t = elim t [ ]
  change_span end (run ∷ runs) x (inl e) = (record { from = run.start; last = start_or end runs - 1; sources = run.sources }, inl refl, ap (λ (y : Change F). y.sources) e)
  change_span end (run ∷ runs) x (inr t) = let s = change_span end runs x t in (s.0, inr s.1, s.2)

  -- what is said at an address of a span
  pub said_span : (end : ℕ) (runs : List (Change F)) (none : F) → IsRising end runs → (s : Span F) → Listed (spans end runs) s → (a : ℕ) → s.from ≤ a → a ≤ s.last → said_at none runs a ≡ s.sources
  said_span end [] none rising s t a low high = elim t [ ]
  said_span end (run ∷ runs) none rising s (inl e) a low high =
      let from : run.start ≡ s.from = ap (λ (x : Span F). x.from) e in
      let last : start_or end runs - 1 ≡ s.last = ap (λ (x : Span F). x.last) e in
      let up : run.start < start_or end runs = rising.0 in
      ap (λ b. said_at (cond b run.sources none) runs a) (reached run a (omega arith))
      ∙ said-before run.sources runs a (λ x t. omega (arith, starts_from end runs rising.1 x t)) ∙ ap (λ (x : Span F). x.sources) e
  said_span end (run ∷ runs) none rising s (inr t) a low high = said_span end runs (cond (nat_le run.start a) run.sources none) rising.1 s t a low high

module _ {X : Type 0} where
  from_each : (x : X) (bs : List Block) (b : Block) (y : X) → Listed (each_with x bs) (b, y) → Listed bs b × (x ≡ y)
  from_each x [] b y t = elim t [ ]
  from_each x (c ∷ bs) b y (inl e) = (inl (ap (λ (p : Block × X). p.0) e), ap (λ (p : Block × X). p.1) e)
  from_each x (c ∷ bs) b y (inr t) = let f = from_each x bs b y t in (inr f.0, f.1)

  in_each : (x : X) (bs : List Block) (b : Block) → Listed bs b → Listed (each_with x bs) (b, x)
  in_each x [] b t = elim t [ ]
  in_each x (c ∷ bs) b (inl e) = inl (ap (λ (d : Block). let p : Block × X = (d, x) in p) e)
  in_each x (c ∷ bs) b (inr t) = inr (in_each x bs b t)

  each_in_order : (x : X) (bs : List Block) → InOrder StartsBefore bs → InOrder StartsBelow (each_with x bs)
  each_in_order x [] o = tt
  each_in_order x (b ∷ bs) o = (λ p t. o.0 p.0 (from_each x bs p.0 p.1 t).0, each_in_order x bs o.1)

module _ {F X : Type 0} (w : ℕ) (value : F → X) where
  -- where a block comes from
  pub from_span : (ss : List (Span F)) (b : Block) (x : X) → Listed (span_blocks w value ss) (b, x) → (s : Span F) × Listed ss s × Listed (largest_in w s.from s.last) b × (value s.sources ≡ x)
  from_span [] b x t = elim t [ ]
  from_span (s ∷ ss) b x t =
      elim (Listed-append_cases (each_with (value s.sources) (largest_in w s.from s.last)) (span_blocks w value ss) (b, x) t) [
        | inl u ↦ let f = from_each (value s.sources) (largest_in w s.from s.last) b x u in (s, inl refl, f.0, f.1)
        | inr u ↦ let f = from_span ss b x u in (f.0, inr f.1, f.2, f.3)
      ]

  pub in_span : (ss : List (Span F)) (s : Span F) (b : Block) → Listed ss s → Listed (largest_in w s.from s.last) b → Listed (span_blocks w value ss) (b, value s.sources)
  in_span [] s b t u = elim t [ ]
  in_span (r ∷ ss) s b (inl e) u =
      let P : Span F → Type 0 = λ x. Listed (largest_in w x.from x.last) b → Listed (each_with (value r.sources) (largest_in w r.from r.last) ++ span_blocks w value ss) (b, value x.sources) in
      subst P e (λ t. Listed-append_left (each_with (value r.sources) (largest_in w r.from r.last)) (span_blocks w value ss) (b, value r.sources)
      (in_each (value r.sources) (largest_in w r.from r.last) b t)) u
  in_span (r ∷ ss) s b (inr t) u = Listed-append_right (each_with (value r.sources) (largest_in w r.from r.last)) (span_blocks w value ss) (b, value s.sources) (in_span ss s b t u)

  -- a largest block of a span starts in it
  pub largest_of : (s : Span F) → s.last < 2 ^ w → (b : Block) → Listed (largest_in w s.from s.last) b → IsLargestIn w s.from s.last b
  largest_of s last_in b t = ((largest_are_in w s.from s.last last_in).exact b).0 (Contains-from_Listed (largest_in w s.from s.last) b t)

  starts_in : (s : Span F) → s.last < 2 ^ w → (b : Block) → Listed (largest_in w s.from s.last) b → (s.from ≤ b.start) × (b.start ≤ s.last)
  starts_in s last_in b t =
      let is = largest_of s last_in b t in
      is.inside b.start is.is_prefix.start_in_range (start_covered w b)

  -- span by span the blocks rise
  pub blocks_in_order : (end : ℕ) → end ≤ 2 ^ w → (runs : List (Change F)) → IsRising end runs → InOrder StartsBelow (span_blocks w value (spans end runs))
  blocks_in_order end le [] rising = tt
  blocks_in_order end le (run ∷ runs) rising =
      let s : Span F = record { from = run.start; last = start_or end runs - 1; sources = run.sources } in
      let up : run.start < start_or end runs = rising.0 in
      let last_in : s.last < 2 ^ w = omega (arith, start_within end runs rising.1) in
      InOrder-append StartsBelow (each_with (value run.sources) (largest_in w s.from s.last)) (span_blocks w value (spans end runs))
      (each_in_order (value run.sources) (largest_in w s.from s.last) (largest_in_order w s.from s.last last_in))
      (blocks_in_order end le runs rising.1)
      (λ p q t u.
      let here = starts_in s last_in p.0 (from_each (value run.sources) (largest_in w s.from s.last) p.0 p.1 t).0 in
      let f = from_span (spans end runs) q.0 q.1 u in
      let range = span_range end runs rising.1 f.0 f.1 in
      let there = starts_in f.0 (omega (arith, range.1)) q.0 f.2 in
      omega (arith, here.1, there.0, spans_from end runs rising.1 f.0 f.1))
