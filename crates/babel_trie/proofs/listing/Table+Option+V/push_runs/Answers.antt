-- One change's rows after another's.
use Rattle.std.proofs.Common.{◌≡◌, inl, inr, ℕ, ◌+◌, ◌^◌, true, List, [], ◌∷◌, ◌++◌, map, refl, sym, ◌∙◌, ap, subst, arith, rules, Option}
use Rattle.std.proofs.Math.Pow.{pow_mono}
use Rattle.std.proofs.lemmas.List.{append-nil, nil_from_length}
use Rattle.std.proofs.lemmas.Result.{err_from_is_err_and}
use Rattle.babel_prefix.specs.Width.{width_of}
use Rattle.babel_prefix.proofs.Members.{Listed}
use Rattle.babel_trie.specs.Interned.{HasTrie}
use Rattle.babel_trie.specs.Cut.{largest_in}
use Rattle.babel_trie.specs.Held.{sources_at}
use Rattle.babel_trie.specs.Nested.{entry_at, rows_of}
use Rattle.babel_trie.specs.Spans.{each_with, spans, span_rows, run_rows}
use Rattle.babel_trie.specs.declared.runs.Change.{Change}
use Rattle.babel_trie.specs.declared.table.Sources.{Sources}
use Rattle.babel_trie.proofs.ListLaws.{width_le}
use Rattle.babel_trie.proofs.PutLaws.{put_none, put_both, stop_first, stop_then}
use Rattle.babel_trie.proofs.SpanBlocks.{start_within}
use Rattle.babel_trie.proofs.SpanLaws.{IsRising, rising_runs}
use Rattle.babel_trie.proofs.SpanRows.{rows_more, rows_none}
use Rattle.babel_trie.proofs.listing.Table+Option+V.push_runs.Goals as goal

pub loop-run-init : goal.loop-run-init
loop-run-init g c =
    let end : c.last_address-top.result + 1 ≡ 2 ^ width_of c.args.family = omega (arith, c.last_address-top.ensures, ap (λ (n : ℕ). 2 ^ n) c.width.ensures) in
    record {
      rising = subst (λ n. IsRising n c.args.runs.now) (sym end) (rising_runs (2 ^ width_of c.args.family) c.args.runs.now c.requires.runs c.requires.below);
      each = c.requires.each;
      done = [];
      can = c.requires.can;
      put = λ start given has. put_none c.args.family (g.S.Sink.has start c.args.out.now) given [] refl has;
      rows = ap (λ n. span_rows (width_of c.args.family) c.args.self.now.nodes.items (spans n c.args.runs.now)) end;
    }

pub run_last-requires : goal.run_last-requires
run_last-requires g c =
    let end = c.last_address-top.result + 1 in
    let run = c.in-Some.run'.now in
    let later = c.in-Some.later.now in
    let rising : IsRising end (run ∷ later) = subst (IsRising end) c.in-Some.ensures.cases.0 c.loop-run.invariant.rising in
    omega (arith, rising.0)

pub push_blocks-requires-clause-trie : goal.push_blocks-requires-clause-trie
push_blocks-requires-clause-trie g c =
    let w = width_of c.args.family in
    let run = c.in-Some.run'.now in
    let later = c.in-Some.later.now in
    let each = subst (λ (xs : List (Change (Sources (Option g.row.V.Denot)))). (x : Change (Sources (Option g.row.V.Denot))) → Listed xs x
    → HasTrie w c.args.self.now.nodes.items x.sources) c.in-Some.ensures.cases.0 c.loop-run.invariant.each in
    each run (inl refl)

pub push_blocks-requires-clause-some : goal.push_blocks-requires-clause-some
push_blocks-requires-clause-some g c =
    let end = c.last_address-top.result + 1 in
    let run = c.in-Some.run'.now in
    let later = c.in-Some.later.now in
    let rising : IsRising end (run ∷ later) = subst (IsRising end) c.in-Some.ensures.cases.0 c.loop-run.invariant.rising in
    omega (arith, rising.0, c.run_last.ensures)

pub push_blocks-requires-clause-fits : goal.push_blocks-requires-clause-fits
push_blocks-requires-clause-fits g c =
    let end = c.last_address-top.result + 1 in
    let run = c.in-Some.run'.now in
    let later = c.in-Some.later.now in
    let rising : IsRising end (run ∷ later) = subst (IsRising end) c.in-Some.ensures.cases.0 c.loop-run.invariant.rising in
    omega (arith, start_within end later rising.1, c.run_last.ensures, c.last_address-top.ensures, ap (λ (n : ℕ). 2 ^ n) c.width.ensures)

pub loop-run-preserved-in_ok-push_blocks : goal.loop-run-preserved-in_ok-push_blocks
loop-run-preserved-in_ok-push_blocks g c =
    let w = width_of c.args.family in
    let end = c.last_address-top.result + 1 in
    let run = c.in-Some.run'.now in
    let later = c.in-Some.later.now in
    let rising : IsRising end (run ∷ later) = subst (IsRising end) c.in-Some.ensures.cases.0 c.loop-run.invariant.rising in
    let each = subst (λ (xs : List (Change (Sources (Option g.row.V.Denot)))). (x : Change (Sources (Option g.row.V.Denot))) → Listed xs x
    → HasTrie w c.args.self.now.nodes.items x.sources) c.in-Some.ensures.cases.0 c.loop-run.invariant.each in
    let sources = c.args.self.now.nodes.items in
    let all = run_rows w sources c.args.runs.now in
    let done = c.loop-run.invariant.done in
    let rows = subst (λ (xs : List (Change (Sources (Option g.row.V.Denot)))). done ++ span_rows w sources (spans end xs) ≡ all) c.in-Some.ensures.cases.0 c.loop-run.invariant.rows in
    let more = rows_of w (each_with (sources_at w sources run.sources) (largest_in w run.start c.run_last.result)) in
    record {
      rising = rising.1;
      each = λ x t. each x (inr t);
      done = done ++ more;
      can = c.in_ok-push_blocks.ensures.can;
      put = λ start given has. put_both c.args.family (g.S.Sink.has start c.push_blocks.new.out) given done more (done ++ more) refl
          (c.in_ok-push_blocks.ensures.ok start (given ++ map (entry_at c.args.family) done) (c.loop-run.invariant.put start given has));
      rows = rows_more w sources end c.run_last.result run later done (done ++ more) all (omega (arith, c.run_last.ensures)) refl rows;
    }

pub loop-run-preserved : goal.loop-run-preserved
loop-run-preserved g c =
    let w = width_of c.args.family in
    let end = c.last_address-top.result + 1 in
    let run = c.in-Some.run'.now in
    let later = c.in-Some.later.now in
    let each = subst (λ (xs : List (Change (Sources (Option g.row.V.Denot)))). (x : Change (Sources (Option g.row.V.Denot))) → Listed xs x
    → HasTrie w c.args.self.now.nodes.items x.sources) c.in-Some.ensures.cases.0 c.loop-run.invariant.each in
    let sources = c.args.self.now.nodes.items in
    let all = run_rows w sources c.args.runs.now in
    let done = c.loop-run.invariant.done in
    let rows = subst (λ (xs : List (Change (Sources (Option g.row.V.Denot)))). done ++ span_rows w sources (spans end xs) ≡ all) c.in-Some.ensures.cases.0 c.loop-run.invariant.rows in
    let rising : IsRising end (run ∷ later) = subst (IsRising end) c.in-Some.ensures.cases.0 c.loop-run.invariant.rising in
    let nothing : c.answers_nothing.result ≡ true = search rules in
    record {
      rising = rising.1;
      each = λ x t. each x (inr t);
      done = done;
      can = c.loop-run.invariant.can;
      put = c.loop-run.invariant.put;
      rows = rows_none w sources end run later done all (each run (inl refl)) (c.answers_nothing.ensures.yes nothing) rows;
    }

pub returns-in_err-push_blocks-clause-err : goal.returns-in_err-push_blocks-clause-err
returns-in_err-push_blocks-clause-err g c =
    let w = width_of c.args.family in
    let end = c.last_address-top.result + 1 in
    let run = c.in-Some.run'.now in
    let later = c.in-Some.later.now in
    let sources = c.args.self.now.nodes.items in
    let all = run_rows w sources c.args.runs.now in
    let done = c.loop-run.invariant.done in
    let rows = subst (λ (xs : List (Change (Sources (Option g.row.V.Denot)))). done ++ span_rows w sources (spans end xs) ≡ all) c.in-Some.ensures.cases.0 c.loop-run.invariant.rows in
    let more = rows_of w (each_with (sources_at w sources run.sources) (largest_in w run.start c.run_last.result)) in
    let whole = rows_more w sources end c.run_last.result run later done (done ++ more) all (omega (arith, c.run_last.ensures)) refl rows in
    let exit = err_from_is_err_and c.from_residual.result c.from_residual.ensures.1 in
    rw exit.1 (λ start given has.
    let Stopped = g.S.Sink.stopped start c.push_blocks.new.out in
    stop_first c.args.family Stopped given (done ++ more) (span_rows w sources (spans end later)) all (sym whole)
    (stop_then c.args.family Stopped given done more (done ++ more) refl
    (c.in_err-push_blocks.ensures.err start (given ++ map (entry_at c.args.family) done) (c.loop-run.invariant.put start given has))))

pub last_address-top-requires : goal.last_address-top-requires
last_address-top-requires g c = omega (arith, pow_mono {i = c.width.result} {j = 128} (omega (arith, c.width.ensures, width_le c.args.family)))

pub loop-run-smaller : goal.loop-run-smaller
loop-run-smaller g c = omega (arith, c.in-Some.ensures.cases.1)

pub loop-run-smaller-in_ok-push_blocks : goal.loop-run-smaller-in_ok-push_blocks
loop-run-smaller-in_ok-push_blocks g c = omega (arith, c.in-Some.ensures.cases.1)

pub returns-clause-ok : goal.returns-clause-ok
returns-clause-ok g c start given has =
    let w = width_of c.args.family in
    let sources = c.args.self.now.nodes.items in
    let done = c.loop-run.invariant.done in
    let none = nil_from_length c.loop-run.rest.now c.in_default.ensures.cases in
    let all = run_rows w sources c.args.runs.now in
    let rows = subst (λ (xs : List (Change (Sources (Option g.row.V.Denot)))). done ++ span_rows w sources (spans (c.last_address-top.result + 1) xs) ≡ all) none c.loop-run.invariant.rows in
    subst (λ put. g.S.Sink.has start c.loop-run.out (given ++ map (entry_at c.args.family) put)) (sym (append-nil done) ∙ rows) (c.loop-run.invariant.put start given has)
