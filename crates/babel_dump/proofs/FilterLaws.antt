-- How many rows a filter keeps, and that the one that asks for nothing keeps all.
use Rattle.std.proofs.Common.{◌≡◌, ℕ, ◌+◌, ◌-◌, ◌^◌, ◌<◌, ◌≤◌, Bool, true, false, List, [], ◌∷◌, ◌++◌, length, refl, ap, ◌∙◌, length-append, arith}
use Rattle.std.specs.Prelude.{filter, cond}
use Rattle.babel_tlv.specs.Pair.{Pair}
use Rattle.babel_tlv.specs.Views.{keeps_all}
use Rattle.babel_tlv.specs.declared.view.View.{View}
use Rattle.babel_table.specs.Bounds.{Bounds}
use Rattle.babel_table.specs.Rows.{Routes}
use Rattle.babel_dump.specs.Command.{ListsPairs, Tells}
use Rattle.babel_dump.specs.Filter.{is_kept, keeps_every, kept_pairs_in, kept_rows}
use Rattle.babel_dump.specs.InFormat.{pairs_in, pairs_or_counts_in, report_in, show_in}
use Rattle.babel_dump.specs.Summary.{shown_in}
use Rattle.babel_dump.specs.declared.filter.Filter.{Filter}
use Rattle.babel_dump.specs.declared.format.Format.{Format}
use Rattle.babel_dump.specs.declared.outcome.Outcome.{Outcome}

-- the filter that asks for nothing keeps every row
pub every_kept : (rows : List Pair) → kept_rows keeps_every rows ≡ rows
every_kept [] = refl
every_kept (row ∷ rows) = ap (λ (l : List Pair). row ∷ l) (every_kept rows)

-- no more pass a test than there are
one_few : {A : Type 0} (b : Bool) (n : ℕ) (x : A) (xs : List A) → length xs ≤ n → length (cond b (x ∷ xs) xs) ≤ n + 1
one_few true n x xs le = omega (arith, le)
one_few false n x xs le = omega (arith, le)

pub filter_few : {A : Type 0} (test : A → Bool) (xs : List A) → length (filter test xs) ≤ length xs
filter_few test [] = omega arith
filter_few test (x ∷ xs) = omega (arith, one_few (test x) (length xs) x (filter test xs) (filter_few test xs))

-- so where a row is left fewer were kept than fit
pub fits : (asked : Filter) (all so_far left rest : List Pair) (row : Pair) → so_far ++ left ≡ all → left ≡ row ∷ rest → length all < 2 ^ 64
    → length (kept_rows asked so_far) < 2 ^ 64 - 1
fits asked all so_far left rest row whole is small =
    omega (arith, filter_few (is_kept asked) so_far, length-append so_far left, ap length whole, ap length is, small)

-- what is found by the filter that asks for nothing is what is found without one
pub lists_every : (limits : Bounds) (view : View) (count : Bool) (format : Format) (table : Routes) (text : List ℕ) (outcome : Outcome)
    → ListsPairs limits view (kept_pairs_in format view keeps_every count) table text outcome → ListsPairs limits view (pairs_or_counts_in format view count) table text outcome
lists_every limits view count format table text outcome says = record {
  canon = says.canon;
  is_canon = says.is_canon;
  fewest = says.fewest;
  tells = record {
    text_is = says.tells.text_is ∙ ap (λ (l : List Pair). pairs_or_counts_in format view count l (kept_rows keeps_every says.canon.pairs)) (every_kept table.rows)
        ∙ ap (pairs_or_counts_in format view count table.rows) (every_kept says.canon.pairs);
    outcome_is = says.tells.outcome_is;
  };
}

pub shows_every : (format : Format) (table : Routes) (text : List ℕ) (outcome : Outcome) → Tells table.report (shown_in format keeps_every false false table) 0 text outcome
    → Tells table.report (show_in format table) 0 text outcome
shows_every format table text outcome says = record {
  text_is = says.text_is ∙ ap (λ (l : List Pair). pairs_in format keeps_all l ++ report_in format table.report) (every_kept table.rows);
  outcome_is = says.outcome_is;
}
