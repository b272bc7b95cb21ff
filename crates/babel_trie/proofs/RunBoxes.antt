-- The rows of a list of changes are the boxes of what it answers.
use Rattle.std.proofs.Common.{◌≡◌, inl, inr, ℕ, ◌^◌, ◌<◌, ◌≤◌, List, [], ◌∷◌, length, Option, Some, sym, ◌∙◌, ap, subst, arith}
use Rattle.std.proofs.lemmas.Bool.{cases_lt}
use Rattle.std.proofs.lemmas.Nat.{pow_pos}
use Rattle.babel_prefix.specs.Block.{Block}
use Rattle.babel_prefix.specs.Covers.{IsBlock, parent}
use Rattle.babel_prefix.specs.Best.{Row, answer}
use Rattle.babel_prefix.proofs.Members.{Listed, Listed-from_Contains}
use Rattle.babel_trie.specs.Boxes.{Answers, SameAnswers, IsUniform, IsBoxList}
use Rattle.babel_trie.specs.Cut.{largest_in}
use Rattle.babel_trie.specs.Held.{sources_at}
use Rattle.babel_trie.specs.Interned.{Represents, HasTrie, HasOneForm}
use Rattle.babel_trie.specs.Runs.{said_at, HasRuns}
use Rattle.babel_trie.specs.Shape.{height, value_at, IsReduced}
use Rattle.babel_trie.specs.Sound.{IsBelow}
use Rattle.babel_trie.specs.Spans.{Span, start_or, spans, span_blocks, run_rows}
use Rattle.babel_trie.specs.declared.runs.Change.{Change}
use Rattle.babel_trie.specs.declared.table.Node.{Node}
use Rattle.babel_trie.specs.declared.table.Sources.{Sources}
use Rattle.babel_trie.specs.declared.table.Sources.TheVariants.{Stored}
use Rattle.babel_trie.proofs.ApartLaws.{said-before}
use Rattle.babel_trie.proofs.BoxAnswers.{answer-rows_of}
use Rattle.babel_trie.proofs.HeldLaws.{sources_at-stands}
use Rattle.babel_trie.proofs.Largest.{largest_are_in, largest_cover}
use Rattle.babel_trie.proofs.Leaves.{leaves_longest}
use Rattle.babel_trie.proofs.NumberLaws.{one_form}
use Rattle.babel_trie.proofs.FormLaws.{Represents-in}
use Rattle.babel_trie.proofs.Pairs.{AreBlocksOf, rows_are_boxes, rows_from, stands_whole}
use Rattle.babel_trie.proofs.Reduced.{reduced_same}
use Rattle.babel_trie.proofs.SpanLaws.{IsRising, IsRunList, Says, HasOneValue, rising_runs, neighbours_differ, span_of, largest_uniform_in_runs, in_runs_largest_uniform}
use Rattle.babel_trie.proofs.SpanBlocks.{starts_from, change_span, span_range, said_span, from_span, in_span, largest_of, blocks_in_order}

module _ {V : Type 0} (w : ℕ) (sources : List (Node (Option V))) (list : List (Change (Sources (Option V)))) (f : Answers V) (p : HasRuns w sources list f) where
  abbrev pub no_node : Sources (Option V)
  no_node = Stored (record { 0 = length sources })

  pub rising : IsRising (2 ^ w) list
  rising = rising_runs (2 ^ w) list p.runs p.below

  -- something is said of the first address
  pub from_zero : start_or (2 ^ w) list ≡ 0
  from_zero =
      elim (cases_lt 0 (start_or (2 ^ w) list)) [
        | inl later ↦
            let nothing : said_at no_node list 0 ≡ no_node = said-before no_node list 0 (λ x t. omega (arith, starts_from (2 ^ w) list rising x t)) in
            let h = p.each no_node 0 (pow_pos w) in
            let in_table : length sources < length sources = subst (IsBelow (length sources)) nothing (Represents-in sources (said_at no_node list 0) h.trie h.stands) in
            absurd (omega arith)
        | inr here ↦ omega arith
      ]

  -- so there is a change
  pub some_change : 0 < length list
  some_change = by list from_zero
    where
      by : (xs : List (Change (Sources (Option V)))) → start_or (2 ^ w) xs ≡ 0 → 0 < length xs
      by [] none = absurd (omega (arith, none, pow_pos w))
      by (x ∷ xs) first = omega arith

  pub first_zero : start_or 1 list ≡ 0
  first_zero = by list some_change from_zero
    where
      by : (xs : List (Change (Sources (Option V)))) → 0 < length xs → start_or (2 ^ w) xs ≡ 0 → start_or 1 xs ≡ 0
      by [] some first = absurd (omega arith)
      by (x ∷ xs) some first = first

  -- what is said on a span stands for a trie
  pub span_trie : (s : Span (Sources (Option V))) → Listed (spans (2 ^ w) list) s → HasTrie w sources s.sources
  span_trie s t =
      let range = span_range (2 ^ w) list rising s t in
      let says : said_at no_node list s.from ≡ s.sources = said_span (2 ^ w) list no_node rising s t s.from (omega arith) range.0 in
      subst (λ (n : Sources (Option V)). HasTrie w sources n) says (p.each no_node s.from (omega (arith, range.0, range.1)))

  -- what there is a change to stands for a trie
  pub change_trie : (x : Change (Sources (Option V))) → Listed list x → HasTrie w sources x.sources
  change_trie x t = let s = change_span (2 ^ w) list x t in subst (λ (n : Sources (Option V)). HasTrie w sources n) s.2 (span_trie s.0 s.1)

  abbrev said : ℕ → Sources (Option V)
  said d = said_at no_node list d

  says : Says w list said
  says s t a low high = said_span (2 ^ w) list no_node rising s t a low high

  -- what is answered for a destination
  trie_answers : (d s : ℕ) → (d_in : d < 2 ^ w) → s < 2 ^ w → value_at (p.each no_node d d_in).trie w s ≡ f d s
  trie_answers d s d_in s_in = ap (λ t. value_at t w s) (sym (sources_at-stands w sources (said d) (p.each no_node d d_in))) ∙ p.answers no_node d s d_in s_in

  run_list : IsRunList w list
  run_list = record { from_zero = from_zero; rising = rising; neighbours_differ = neighbours_differ list p.runs }

  module _ (form : HasOneForm sources) where
    -- two destinations with the same answers have equal sources
    one_said : (d e : ℕ) → (d_in : d < 2 ^ w) → (e_in : e < 2 ^ w) → ((s : ℕ) → s < 2 ^ w → f d s ≡ f e s) → said d ≡ said e
    one_said d e d_in e_in same =
        let h = p.each no_node d d_in in
        let k = p.each no_node e e_in in
        let one : h.trie ≡ k.trie = reduced_same w h.trie k.trie h.fits k.fits h.reduced k.reduced (λ s s_in. trie_answers d s d_in s_in ∙ same s s_in ∙ sym (trie_answers e s e_in s_in)) in
        one_form sources form k.trie (said d) (said e) (subst (Represents sources (said d)) one h.stands) k.stands

    -- the blocks with equal sources are the uniform ones
    one_value : (b : Block) → IsUniform w f b → HasOneValue w said b
    one_value b uniform d e d_in e_in in_d in_e = one_said d e d_in e_in (λ s s_in. uniform d e s d_in e_in s_in in_d in_e)

    uniform_value : (b : Block) → HasOneValue w said b → IsUniform w f b
    uniform_value b one d e s d_in e_in s_in in_d in_e =
        let same : said d ≡ said e = one d e d_in e_in in_d in_e in
        sym (p.answers no_node d s d_in s_in) ∙ ap (λ (n : Sources (Option V)). value_at (sources_at w sources n) w s) same ∙ p.answers no_node e s e_in s_in

    -- the largest blocks of the spans are the longest uniform ones
    pub are_blocks : AreBlocksOf w f (span_blocks w (sources_at w sources) (spans (2 ^ w) list))
    are_blocks =
        record {
          in_order = blocks_in_order w (sources_at w sources) (2 ^ w) (omega arith) list rising;
          each = λ b q t.
              let from = from_span w (sources_at w sources) (spans (2 ^ w) list) b q t in
              let s : Span (Sources (Option V)) = from.0 in
              let range = span_range (2 ^ w) list rising s from.1 in
              let is = largest_of w (sources_at w sources) s range.1 b from.2 in
              let h = span_trie s from.1 in
              let trie_is : h.trie ≡ q = sym (sources_at-stands w sources s.sources h) ∙ from.3 in
              record {
                is_prefix = is.is_prefix;
                longest = λ some uniform. (in_runs_largest_uniform w list said run_list says b (s, from.1, is)).largest some (one_value (parent w b) uniform);
                fits = subst (λ t. height t ≤ w) trie_is h.fits;
                reduced = subst IsReduced trie_is h.reduced;
                answers = λ d a d_in a_in in_b.
                    let inside = is.inside d d_in in_b in
                    sym (p.answers no_node d a d_in a_in) ∙ ap (λ (n : Sources (Option V)). value_at (sources_at w sources n) w a)
                    (says s from.1 d inside.0 inside.1) ∙ ap (λ t. value_at t w a) from.3;
              };
          found = λ b is uniform longest.
              let at = largest_uniform_in_runs w list said run_list says b (record {
                is_prefix = is;
                uniform = one_value b uniform;
                largest = λ some one. longest some (uniform_value (parent w b) one);
              }) in
              let s : Span (Sources (Option V)) = at.0 in
              let range = span_range (2 ^ w) list rising s at.1 in
              let listed = Listed-from_Contains (largest_in w s.from s.last) b (((largest_are_in w s.from s.last range.1).exact b).1 at.2) in
              (sources_at w sources s.sources, in_span w (sources_at w sources) (spans (2 ^ w) list) s b at.1 listed);
          covered = λ d d_in.
              let at = span_of (2 ^ w) list rising run_list.neighbours_differ d (omega (arith, from_zero)) d_in in
              let s : Span (Sources (Option V)) = at.span in
              let range = span_range (2 ^ w) list rising s at.listed in
              let c = largest_cover w s.from s.last range.1 d at.from_in at.last_in in
              (c.0, sources_at w sources s.sources, in_span w (sources_at w sources) (spans (2 ^ w) list) s c.0 at.listed c.1, c.2);
        }

    -- the rows are the boxes
    pub run_boxes : IsBoxList w f (run_rows w sources list)
    run_boxes = rows_are_boxes w f (span_blocks w (sources_at w sources) (spans (2 ^ w) list)) are_blocks

    -- and have the answers
    pub run_rows_answer : SameAnswers w (answer w (run_rows w sources list)) f
    run_rows_answer = answer-rows_of w f (span_blocks w (sources_at w sources) (spans (2 ^ w) list)) are_blocks

  -- a row has two prefixes
  pub rows_prefixes : (row : Row V) → Listed (run_rows w sources list) row → IsBlock w row.dst × IsBlock w row.src
  rows_prefixes row t =
      let r = rows_from w (span_blocks w (sources_at w sources) (spans (2 ^ w) list)) row t in
      let from = from_span w (sources_at w sources) (spans (2 ^ w) list) row.dst r.sources r.dst_listed in
      let s : Span (Sources (Option V)) = from.0 in
      let is = largest_of w (sources_at w sources) s (span_range (2 ^ w) list rising s from.1).1 row.dst from.2 in
      let h = span_trie s from.1 in
      let trie_is : h.trie ≡ r.sources = sym (sources_at-stands w sources s.sources h) ∙ from.3 in
      let whole = stands_whole w r.sources (subst (λ t. height t ≤ w) trie_is h.fits) (subst IsReduced trie_is h.reduced) in
      (is.is_prefix, (leaves_longest w (value_at r.sources w) w 0 r.sources whole row.src (Some row.value) r.src_listed).is_prefix)
