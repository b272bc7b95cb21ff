-- The rows of the changes before the last one are boxes, whatever is answered behind it.
use Rattle.std.proofs.Common.{◌≡◌, inl, inr, ℕ, ◌-◌, ◌^◌, ◌<◌, ◌≤◌, List, [], ◌∷◌, ◌++◌, length, append_assoc, Option, refl, sym, ◌∙◌, ap, subst, arith}
use Rattle.std.specs.List.{AllPairs}
use Rattle.babel_prefix.specs.Best.{Row}
use Rattle.babel_prefix.specs.Covers.{BlockCovers}
use Rattle.babel_prefix.proofs.Members.{Listed, Contains-from_Listed, Listed-from_Contains, Listed-append_left, Listed-append_right}
use Rattle.babel_trie.specs.Boxes.{Answers, IsBefore, IsBox, IsBoxList}
use Rattle.babel_trie.specs.Held.{sources_at}
use Rattle.babel_trie.specs.Interned.{HasOneForm, HasTrie}
use Rattle.babel_trie.specs.Nested.{rows_of}
use Rattle.babel_trie.specs.Runs.{said_at, AreRuns, StartBelow, HasRuns}
use Rattle.babel_trie.specs.Shape.{value_at}
use Rattle.babel_trie.specs.Spans.{Span, spans, each_with, span_blocks, span_rows, run_rows}
use Rattle.babel_trie.specs.Cut.{largest_in}
use Rattle.babel_trie.specs.declared.runs.Change.{Change}
use Rattle.babel_trie.specs.declared.table.Node.{Node}
use Rattle.babel_trie.specs.declared.table.Sources.{Sources}
use Rattle.babel_trie.proofs.BelowLaws.{box_below}
use Rattle.babel_trie.proofs.ListLaws.{rows_of-append}
use Rattle.babel_trie.proofs.Lists.{Distinct, Distinct-from_order, no_more}
use Rattle.babel_trie.proofs.Pairs.{rows_from}
use Rattle.babel_trie.proofs.Ranges.{start_covered}
use Rattle.babel_trie.proofs.RunBoxes.{no_node, rising, run_boxes, span_trie}
use Rattle.babel_trie.proofs.SpanBlocks.{from_span, largest_of, said_span, span_range}
use Rattle.babel_trie.proofs.SpanLaws.{IsRising}

-- the last member of a list
pub last_listed : {X : Type 0} (front : List X) (last : X) → Listed (front ++ last ∷ []) last
last_listed front last = Listed-append_right front (last ∷ []) last (inl refl)

module _ {F : Type 0} where
  -- what is said from the last change to an end
  abbrev last_span : ℕ → Change F → Span F
  last_span end last = record { from = last.start; last = end - 1; sources = last.sources }

  spans-append : (end : ℕ) (front : List (Change F)) (last : Change F) → spans end (front ++ last ∷ []) ≡ spans last.start front ++ last_span end last ∷ []
  spans-append end [] last = refl
  spans-append end (x ∷ []) last = refl
  spans-append end (x ∷ y ∷ ys) last = ap (λ ss. record { from = x.start; last = y.start - 1; sources = x.sources } ∷ ss) (spans-append end (y ∷ ys) last)

  rising-front : (end : ℕ) (front : List (Change F)) (last : Change F) → IsRising end (front ++ last ∷ []) → IsRising last.start front
  rising-front end [] last r = tt
  rising-front end (x ∷ []) last r = (r.0, tt)
  rising-front end (x ∷ y ∷ ys) last r = (r.0, rising-front end (y ∷ ys) last r.1)

  -- the changes before the last one
  pub front_runs : (front : List (Change F)) (last : Change F) → AreRuns (front ++ last ∷ []) → AreRuns front × StartBelow last.start front
  front_runs [] last r = (tt, λ x t. elim t [ ])
  front_runs (x ∷ []) last r = (tt, λ y t. elim t [ inl e ↦ subst (λ (z : Change F). z.start < last.start) e r.0 | inr none ↦ elim none [ ] ])
  front_runs (x ∷ y ∷ ys) last r =
      let rest = front_runs (y ∷ ys) last r.2 in (
        (r.0, r.1, rest.0),
        λ z t. elim t [ inl e ↦ subst (λ (u : Change F). u.start < last.start) e (omega (arith, r.0, rest.1 y (inl refl))) | inr u ↦ rest.1 z u ],
      )

span_blocks-append : {F X : Type 0} (w : ℕ) (value : F → X) (ss later : List (Span F)) → span_blocks w value (ss ++ later) ≡ span_blocks w value ss ++ span_blocks w value later
span_blocks-append w value [] later = refl
span_blocks-append w value (s ∷ ss) later =
    let here = each_with (value s.sources) (largest_in w s.from s.last) in
    ap (λ bs. here ++ bs) (span_blocks-append w value ss later) ∙ sym (append_assoc here (span_blocks w value ss) (span_blocks w value later))

distinct-front : {X : Type 0} (xs ys : List X) → Distinct (xs ++ ys) → Distinct xs
distinct-front [] ys d = tt
distinct-front (x ∷ xs) ys d = (λ t. d.0 (Listed-append_left xs ys x t), distinct-front xs ys d.1)

no_row_before : {V : Type 0} (row : Row V) → IsBefore row row → ⊥
no_row_before row (inl lt) = omega arith
no_row_before row (inr lt) = omega (arith, lt.1)

module _ {V : Type 0} (w : ℕ) (nodes : List (Node (Option V))) (form : HasOneForm nodes) (front : List (Change (Sources (Option V)))) (last : Change (Sources (Option V)))
    (f g : Answers V) (p : HasRuns w nodes (front ++ last ∷ []) g) where
  abbrev early : List (Row V)
  early = span_rows w nodes (spans last.start front)

  abbrev late : List (Row V)
  late = span_rows w nodes (last_span (2 ^ w) last ∷ [])

  rows_split : run_rows w nodes (front ++ last ∷ []) ≡ early ++ late
  rows_split =
      let value = sources_at w nodes in
      ap (λ ss. span_rows w nodes ss) (spans-append (2 ^ w) front last)
      ∙ ap (rows_of w) (span_blocks-append w value (spans last.start front) (last_span (2 ^ w) last ∷ []))
      ∙ rows_of-append w (span_blocks w value (spans last.start front)) (span_blocks w value (last_span (2 ^ w) last ∷ []))

  is_box : (row : Row V) → Listed early row → IsBox w g row
  is_box row t = ((run_boxes w nodes (front ++ last ∷ []) g p form).exact row).0 (Contains-from_Listed _ row (subst (λ rows. Listed rows row) (sym rows_split) (Listed-append_left early late row t)))

  below_last : (row : Row V) → Listed early row → (d : ℕ) → d < 2 ^ w → BlockCovers w row.dst d → d < last.start
  below_last row t d d_in cd =
      let value = sources_at w nodes in
      let r = rows_from w (span_blocks w value (spans last.start front)) row t in
      let from = from_span w value (spans last.start front) row.dst r.sources r.dst_listed in
      let range = span_range last.start front (rising-front (2 ^ w) front last (rising w nodes (front ++ last ∷ []) g p)) from.0 from.1 in
      let in_w : last.start < 2 ^ w = p.below last (last_listed front last) in
      omega (arith, range.1, ((largest_of w value from.0 (omega (arith, range.1, in_w)) row.dst from.2).inside d d_in cd).1)

  -- from the last change on nothing changes
  still : (d s : ℕ) → last.start ≤ d → d < 2 ^ w → s < 2 ^ w → g d s ≡ g last.start s
  still d s from d_in s_in =
      let list = front ++ last ∷ [] in
      let span : Listed (spans (2 ^ w) list) (last_span (2 ^ w) last) =
      subst (λ ss. Listed ss (last_span (2 ^ w) last)) (sym (spans-append (2 ^ w) front last))
      (Listed-append_right (spans last.start front) (last_span (2 ^ w) last ∷ []) (last_span (2 ^ w) last) (inl refl)) in
      let none = no_node w nodes list g p in
      let at = λ (e : ℕ) (low : last.start ≤ e) (e_in : e < 2 ^ w). said_span (2 ^ w) list none (rising w nodes list g p) (last_span (2 ^ w) last) span e low (omega (arith, e_in)) in
      let said : said_at none list d ≡ said_at none list last.start = at d from d_in ∙ sym (at last.start (omega arith) (p.below last (last_listed front last))) in
      sym (p.answers none d s d_in s_in) ∙ ap (λ (n : Sources (Option V)). value_at (sources_at w nodes n) w s) said ∙ p.answers none last.start s (p.below last (last_listed front last)) s_in

  -- there are no more of them than of the boxes of what answers the same up to the last change
  pub early_rows : ((d s : ℕ) → d ≤ last.start → s < 2 ^ w → f d s ≡ g d s) → (boxes : List (Row V)) → IsBoxList w f boxes → length early ≤ length boxes
  early_rows same boxes are =
      let in_order = subst (λ rows. AllPairs IsBefore rows) rows_split (run_boxes w nodes (front ++ last ∷ []) g p form).in_order in
      no_more (λ row box. row ≡ box) (λ row other box is other_is. is ∙ sym other_is) early boxes
      (distinct-front early late (Distinct-from_order IsBefore no_row_before (early ++ late) in_order))
      (λ row t.
      let b = is_box row t in
      let below = below_last row t in
      let in_f = box_below w f g last.start (λ d s le s_in. sym (same d s le s_in)) (λ d s from d_in s_in. still d s from d_in s_in ∙ sym (same last.start s (omega arith) s_in)) row
      (below row.dst.start b.dst_is_prefix.start_in_range (start_covered w row.dst)) below b in
      (row, Listed-from_Contains boxes row ((are.exact row).1 in_f), refl))

  -- a span before the last change stands for a trie
  pub early_trie : (s : Span (Sources (Option V))) → Listed (spans last.start front) s → HasTrie w nodes s.sources
  early_trie s t =
      span_trie w nodes (front ++ last ∷ []) g p s (subst (λ ss. Listed ss s) (sym (spans-append (2 ^ w) front last)) (Listed-append_left (spans last.start front) (last_span (2 ^ w) last ∷ []) s t))
