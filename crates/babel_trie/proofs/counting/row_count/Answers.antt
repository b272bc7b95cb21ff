-- One change's rows after another's.
use Rattle.std.proofs.Common.{◌≡◌, inl, inr, refl, ℕ, ◌+◌, ◌-◌, ◌*◌, ◌^◌, ◌<◌, List, ◌∷◌, length, ◌∙◌, ap, subst, arith, Option}
use Rattle.babel_prefix.proofs.Members.{Listed}
use Rattle.babel_trie.specs.Counts.{capped, sources_count}
use Rattle.babel_trie.specs.Cut.{largest_in}
use Rattle.babel_trie.specs.Sound.{IsBelow}
use Rattle.babel_trie.specs.Spans.{start_or, spans, counted_rows}
use Rattle.babel_trie.specs.declared.runs.Change.{Change}
use Rattle.babel_trie.specs.declared.table.Sources.{Sources}
use Rattle.babel_trie.proofs.Largest.{largest_is}
use Rattle.babel_trie.proofs.SpanLaws.{IsRising, rising_runs}
use Rattle.babel_trie.proofs.SpanBlocks.{none_left, start_within}
use Rattle.babel_trie.proofs.counting.row_count.Goals as goal

pub loop-run-init : goal.loop-run-init
loop-run-init g c =
    record {
      fits = omega arith;
      rising = rising_runs (c.args.last + 1) c.args.runs.now c.requires.runs c.requires.below;
      each = c.requires.counts;
      counted = λ w last_in. ap capped {x = 0 + counted_rows w c.args.counts.now (spans (c.args.last + 1) c.args.runs.now)} (omega arith);
    }

pub value_count-rows-requires : goal.value_count-rows-requires
value_count-rows-requires g c =
    subst (λ (xs : List (Change (Sources (Option g.row.V.Denot)))). (x : Change (Sources (Option g.row.V.Denot))) → Listed xs x
    → IsBelow (length c.args.counts.now) x.sources) c.in-Some.ensures.cases.0 c.loop-run.invariant.each c.in-Some.run'.now (inl refl)

pub loop-run-preserved : goal.loop-run-preserved
loop-run-preserved g c =
    let end : ℕ = c.args.last + 1 in
    let counts = c.args.counts.now in
    let run = c.in-Some.run'.now in
    let later = c.in-Some.later.now in
    let rest_is = c.in-Some.ensures.cases.0 in
    let rising : IsRising end (run ∷ later) = subst (IsRising end) rest_is c.loop-run.invariant.rising in
    let each = subst (λ (xs : List (Change (Sources (Option g.row.V.Denot)))). (x : Change (Sources (Option g.row.V.Denot))) → Listed xs x
    → IsBelow (length counts) x.sources) rest_is c.loop-run.invariant.each in
    record {
      fits = omega (arith, c.saturating_add-total.ensures);
      rising = rising.1;
      each = λ x t. each x (inr t);
      counted = λ w last_in.
          let all : ℕ = capped (counted_rows w counts (spans end c.args.runs.now)) in
          let counted : capped (c.loop-run.total + counted_rows w counts (spans end (run ∷ later))) ≡ all =
          subst (λ (xs : List (Change (Sources (Option g.row.V.Denot)))). capped (c.loop-run.total + counted_rows w counts (spans end xs)) ≡ all) rest_is (c.loop-run.invariant.counted w last_in) in
          let run_last_is : c.run_last.result ≡ start_or end later - 1 = omega (arith, c.run_last.ensures) in
          let run_last_in : c.run_last.result < 2 ^ w = omega (arith, c.run_last.ensures, start_within end later rising.1) in
          let are = c.block_count.ensures w run_last_in in
          let blocks : c.block_count.result ≡ length (largest_in w run.start (start_or end later - 1)) =
          are.2 ∙ ap length (largest_is w run.start c.run_last.result run_last_in are.0 are.1) ∙ ap (λ (n : ℕ). length (largest_in w run.start n)) run_last_is in
          let product : c.from-blocks.result * c.value_count-rows.result ≡ length (largest_in w run.start (start_or end later - 1)) * sources_count counts run.sources =
          ap (λ (n : ℕ). n * c.value_count-rows.result) (c.from-blocks.ensures ∙ blocks) ∙ ap (λ (n : ℕ). length (largest_in w run.start (start_or end later - 1)) * n) c.value_count-rows.ensures in
          omega (arith, counted, product, c.saturating_mul.ensures, c.saturating_add-total.ensures);
    }

pub returns : goal.returns
returns g c w last_in =
    let counts = c.args.counts.now in
    let all : ℕ = capped (counted_rows w counts (spans (c.args.last + 1) c.args.runs.now)) in
    let counted = none_left c.loop-run.rest.now c.in_default.ensures.cases
    (λ xs. capped (c.loop-run.total + counted_rows w counts (spans (c.args.last + 1) xs)) ≡ all) (c.loop-run.invariant.counted w last_in) in
    omega (arith, counted, c.loop-run.invariant.fits)
