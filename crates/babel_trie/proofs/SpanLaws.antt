-- The largest uniform blocks of a function are the largest blocks of its runs.
use Rattle.std.proofs.Common.{◌≡◌, ◌≢◌, inl, inr, ℕ, ◌+◌, ◌-◌, ◌^◌, ◌<◌, ◌≤◌, List, [], ◌∷◌, refl, sym, ◌∙◌, ap, subst, arith}
use Rattle.std.proofs.lemmas.Bool.{cases_lt}
use Rattle.babel_prefix.specs.Block.{Block}
use Rattle.babel_prefix.specs.Covers.{BlockCovers, IsBlock, parent}
use Rattle.babel_prefix.specs.Members.{Listed}
use Rattle.babel_prefix.proofs.BlockLaws.{parent_wider}
use Rattle.babel_trie.specs.Cut.{IsInside, IsLargestIn}
use Rattle.babel_trie.specs.Runs.{AreRuns, StartBelow}
use Rattle.babel_trie.specs.Spans.{Span, start_or, spans}
use Rattle.babel_trie.specs.declared.runs.Change.{Change}
use Rattle.babel_trie.proofs.Ranges.{size, range_covers, range_inside, start_covered, block_ends, parent_is}

module _ {F : Type 0} where
  -- each change is before the next one, and the last before the end
  abbrev pub IsRising : ℕ → List (Change F) → Type 0
  IsRising end [] = Unit {0}
  IsRising end (run ∷ runs) = (run.start < start_or end runs) × IsRising end runs

  -- the first change, if there is one, is to something else
  abbrev pub DiffersFromFirst : F → List (Change F) → Type 0
  DiffersFromFirst sources [] = Unit {0}
  DiffersFromFirst sources (run ∷ runs) = sources ≢ run.sources

  -- no change is to what the next one is to
  abbrev pub NeighboursDiffer : List (Change F) → Type 0
  NeighboursDiffer [] = Unit {0}
  NeighboursDiffer (run ∷ runs) = DiffersFromFirst run.sources runs × NeighboursDiffer runs

  -- changes that say something of each address of the width
  pub record IsRunList (width : ℕ) (runs : List (Change F)) : Type 0 where
    pub from_zero : start_or (2 ^ width) runs ≡ 0
    pub rising : IsRising (2 ^ width) runs
    pub neighbours_differ : NeighboursDiffer runs

  -- on each span the function is what is said there
  abbrev pub Says : ℕ → List (Change F) → (ℕ → F) → Type 0
  Says width runs g =
      (span : Span F) → Listed (spans (2 ^ width) runs) span → (a : ℕ) → span.from ≤ a → a ≤ span.last → g a ≡ span.sources

  -- all addresses of the block have the same value
  abbrev pub HasOneValue : ℕ → (ℕ → F) → Block → Type 0
  HasOneValue width g block =
      (a b : ℕ) → a < 2 ^ width → b < 2 ^ width → BlockCovers width block a → BlockCovers width block b → g a ≡ g b

  -- a block with one value, whose parent has several
  pub record IsLargestUniform (width : ℕ) (g : ℕ → F) (block : Block) : Type 0 where
    pub is_prefix : IsBlock width block
    pub uniform : HasOneValue width g block
    pub largest : 0 < block.len → HasOneValue width g (parent width block) → ⊥

  -- a largest block of one of the spans
  abbrev pub IsInRuns : ℕ → List (Change F) → Block → Type 0
  IsInRuns width runs block =
      (span : Span F) × Listed (spans (2 ^ width) runs) span × IsLargestIn width span.from span.last block

  pub rising_runs : (end : ℕ) (runs : List (Change F)) → AreRuns runs → StartBelow end runs → IsRising end runs
  rising_runs end [] are below = tt
  rising_runs end (x ∷ []) are below = (below x (inl refl), tt)
  rising_runs end (x ∷ y ∷ ys) are below = (are.0, rising_runs end (y ∷ ys) are.2 (λ z t. below z (inr t)))

  pub neighbours_differ : (runs : List (Change F)) → AreRuns runs → NeighboursDiffer runs
  neighbours_differ [] are = tt
  neighbours_differ (x ∷ []) are = (tt, tt)
  neighbours_differ (x ∷ y ∷ ys) are = (are.1, neighbours_differ (y ∷ ys) are.2)

  -- the span of an address, and that the value changes after it
  pub record SpanOf (end : ℕ) (all : List (Span F)) (a : ℕ) : Type 0 where
    pub span : Span F
    pub listed : Listed all span
    pub from_in : span.from ≤ a
    pub last_in : a ≤ span.last
    pub next : span.last + 1 < end → (later : Span F) × Listed all later × (later.from ≡ span.last + 1) × (later.from ≤ later.last) × (span.sources ≢ later.sources)

  next_span : (end last : ℕ) (sources : F) (runs : List (Change F)) → IsRising end runs → DiffersFromFirst sources runs → last + 1 ≡ start_or end runs → last + 1 < end →
      (later : Span F) × Listed (spans end runs) later × (later.from ≡ last + 1) × (later.from ≤ later.last) × (sources ≢ later.sources)
  next_span end last sources [] rising differs e lt = absurd (omega arith)
  next_span end last sources (run ∷ runs) rising differs e lt = (_, inl refl, sym e, omega (arith, rising.0), differs)

  -- each address from the first run's start on has its span
  pub span_of : (end : ℕ) (runs : List (Change F)) → IsRising end runs → NeighboursDiffer runs → (a : ℕ) → start_or end runs ≤ a → a < end → SpanOf end (spans end runs) a
  span_of end [] rising differ a low high = absurd (omega arith)
  span_of end (run ∷ runs) rising differ a low high =
      let up : run.start < start_or end runs = rising.0 in
      elim (cases_lt a (start_or end runs)) [
        | inl here ↦
            record {
              span = record { from = run.start; last = start_or end runs - 1; sources = run.sources };
              listed = inl refl;
              from_in = low;
              last_in = omega arith;
              next = λ lt. let l = next_span end (start_or end runs - 1) run.sources runs rising.1 differ.0 (omega arith) lt in (l.0, inr l.1, l.2, l.3, l.4);
            }
        | inr later ↦
            let s = span_of end runs rising.1 differ.1 a later high in
            record { span = s.span; listed = inr s.listed; from_in = s.from_in; last_in = s.last_in; next = λ lt. let l = s.next lt in (l.0, inr l.1, l.2, l.3, l.4) }
      ]

  -- a block inside a span has one value
  pub inside_uniform : (w : ℕ) (runs : List (Change F)) (g : ℕ → F) → Says w runs g → (span : Span F) → Listed (spans (2 ^ w) runs) span →
      (b : Block) → IsInside w span.from span.last b → HasOneValue w g b
  inside_uniform w runs g says span listed b inside m n m_in n_in in_m in_n =
      let p = inside m m_in in_m in
      let q = inside n n_in in_n in
      says span listed m p.0 p.1 ∙ sym (says span listed n q.0 q.1)

  -- a block with one value lies inside the span of its start
  pub uniform_inside : (w : ℕ) (runs : List (Change F)) (g : ℕ → F) → Says w runs g → (b : Block) → IsBlock w b → HasOneValue w g b →
      (s : SpanOf (2 ^ w) (spans (2 ^ w) runs) b.start) → IsInside w s.span.from s.span.last b
  uniform_inside w runs g says b is one s =
      let a : ℕ = b.start in
      let in_a : BlockCovers w b a = start_covered w b in
      let ends : b.start + size w b ≤ 2 ^ w = block_ends w b is in
      let from_in : s.span.from ≤ a = s.from_in in
      let last_in : a ≤ s.span.last = s.last_in in
      elim (cases_lt (s.span.last + 1) (b.start + size w b)) [
        | inl past ↦
            let l = s.next (omega arith) in
            let n : ℕ = s.span.last + 1 in
            let at : l.0.from ≡ n = l.2 in
            let some : l.0.from ≤ l.0.last = l.3 in
            let there : g n ≡ l.0.sources = says l.0 l.1 n (omega arith) (omega arith) in
            let here : g a ≡ s.span.sources = says s.span s.listed a from_in last_in in
            let same : g a ≡ g n = one a n (omega arith) (omega arith) in_a (range_covers w b n is (omega arith) past) in
            absurd (l.4 (sym here ∙ same ∙ there))
        | inr within ↦ range_inside w s.span.from s.span.last b is (omega arith) (omega arith)
      ]

  pub largest_uniform_in_runs : (w : ℕ) (runs : List (Change F)) (g : ℕ → F) → IsRunList w runs → Says w runs g → (b : Block) → IsLargestUniform w g b → IsInRuns w runs b
  largest_uniform_in_runs w runs g list says b is =
      let zero_first : start_or (2 ^ w) runs ≡ 0 = list.from_zero in
      let b_in : b.start < 2 ^ w = is.is_prefix.start_in_range in
      let s = span_of (2 ^ w) runs list.rising list.neighbours_differ b.start (omega arith) b_in in (
        s.span,
        s.listed,
        record {
          is_prefix = is.is_prefix;
          inside = uniform_inside w runs g says b is.is_prefix is.uniform s;
          largest = λ some inside. is.largest some (inside_uniform w runs g says s.span s.listed (parent w b) inside);
        },
      )

  -- no span starts before the first run
  pub spans_from : (end : ℕ) (runs : List (Change F)) → IsRising end runs → (s : Span F) → Listed (spans end runs) s → start_or end runs ≤ s.from
  spans_from end [] rising s none = elim none [ ]
  spans_from end (run ∷ runs) rising s (inl e) = let P : Span F → Type 0 = λ t. run.start ≤ t.from in subst P e (omega arith)
  spans_from end (run ∷ runs) rising s (inr t) = omega (arith, rising.0, spans_from end runs rising.1 s t)

  -- two spans of one address are one
  pub one_span : (end : ℕ) (runs : List (Change F)) → IsRising end runs → (s t : Span F) → Listed (spans end runs) s → Listed (spans end runs) t →
      (a : ℕ) → s.from ≤ a → a ≤ s.last → t.from ≤ a → a ≤ t.last → s ≡ t
  one_span end [] rising s t none in_t a s_low s_high t_low t_high = elim none [ ]
  one_span end (run ∷ runs) rising s t (inl e) (inl f) a s_low s_high t_low t_high = sym e ∙ f
  one_span end (run ∷ runs) rising s t (inl e) (inr v) a s_low s_high t_low t_high =
      let last : start_or end runs - 1 ≡ s.last = ap (λ (x : Span F). x.last) e in
      absurd (omega (arith, rising.0, spans_from end runs rising.1 t v))
  one_span end (run ∷ runs) rising s t (inr u) (inl f) a s_low s_high t_low t_high =
      let last : start_or end runs - 1 ≡ t.last = ap (λ (x : Span F). x.last) f in
      absurd (omega (arith, rising.0, spans_from end runs rising.1 s u))
  one_span end (run ∷ runs) rising s t (inr u) (inr v) a s_low s_high t_low t_high = one_span end runs rising.1 s t u v a s_low s_high t_low t_high

  pub in_runs_largest_uniform : (w : ℕ) (runs : List (Change F)) (g : ℕ → F) → IsRunList w runs → Says w runs g → (b : Block) → IsInRuns w runs b → IsLargestUniform w g b
  in_runs_largest_uniform w runs g list says b (span, listed, is) =
      let zero_first : start_or (2 ^ w) runs ≡ 0 = list.from_zero in
      record {
        is_prefix = is.is_prefix;
        uniform = inside_uniform w runs g says span listed b is.inside;
        largest = λ some uniform.
            let p : Block = parent w b in
            let p_is : IsBlock w p = parent_is w b is.is_prefix in
            let p_in : p.start < 2 ^ w = p_is.start_in_range in
            let s = span_of (2 ^ w) runs list.rising list.neighbours_differ p.start (omega arith) p_in in
            let inside : IsInside w s.span.from s.span.last p = uniform_inside w runs g says p p_is uniform s in
            let b_in : b.start < 2 ^ w = is.is_prefix.start_in_range in
            let here = is.inside b.start b_in (start_covered w b) in
            let there = inside b.start b_in (parent_wider w b b.start (start_covered w b)) in
            let same : s.span ≡ span = one_span (2 ^ w) runs list.rising s.span span s.listed listed b.start there.0 there.1 here.0 here.1 in
            is.largest some (subst (λ (x : Span F). IsInside w x.from x.last p) same inside);
      }
