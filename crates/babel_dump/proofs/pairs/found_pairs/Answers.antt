use Rattle.std.proofs.Common.{ℕ, Bool, List, ◌++◌, length, sym, ap, append-nil, ◌∙◌}
use Rattle.babel_dump.specs.Filter.{kept_pairs_in, kept_rows}
use Rattle.babel_dump.specs.InFormat.{counts_in, pairs_in, pairs_or_counts_in}
use Rattle.babel_dump.proofs.Forms.{lists_pairs}
use Rattle.babel_dump.proofs.pairs.found_pairs.Goals as goal

pub returns-then-count-clause-ok : goal.returns-then-count-clause-ok
returns-then-count-clause-ok c =
    let kept = kept_rows c.args.filter in
    let format = c.args.format.now in
    let counted = c.in_ok-pairs.ensures.ok in
    lists_pairs c.text_is_one.ensures c.args.limits c.args.view (kept_pairs_in format c.args.view c.args.filter c.args.count) c.args.table c.seen-seen.result counted.pairs
    c.seen-seen.ensures counted.are_canonical _ _ (record {
      text_is = c.text.ensures.text format ∙ c.in_ok-text.ensures
          ∙ ap (λ (n : ℕ). counts_in format n c.in_ok-pairs.pairs) c.count-rows.ensures
          ∙ ap (λ (n : ℕ). counts_in format (length (kept c.args.table.rows)) n) counted.count_is
          ∙ sym (ap (λ (b : Bool). pairs_or_counts_in format c.args.view b (kept c.args.table.rows) (kept counted.pairs)) c.if-count.true);
      outcome_is = c.text.ensures.outcome ∙ rw c.report.ensures at c.of_dump-outcome.ensures;
    })

pub returns-clause-ok : goal.returns-clause-ok
returns-clause-ok c =
    let kept = kept_rows c.args.filter in
    let pairs = c.in_ok-pairs-2.pairs in
    let lines = pairs_in c.args.format.now c.args.view (kept pairs) in
    lists_pairs c.text_is_one.ensures c.args.limits c.args.view (kept_pairs_in c.args.format.now c.args.view c.args.filter c.args.count) c.args.table c.seen-seen.result pairs
    c.seen-seen.ensures c.in_ok-pairs-2.ensures.ok _ _ (record {
      text_is = c.rows.ensures.text c.args.format.now ∙ ap (λ (after : List ℕ). lines ++ after) c.new.ensures.items ∙ append-nil lines
          ∙ sym (ap (λ (b : Bool). pairs_or_counts_in c.args.format.now c.args.view b (kept c.args.table.rows) (kept pairs)) c.if-count.false);
      outcome_is = c.rows.ensures.outcome ∙ rw c.report.ensures at c.of_dump-outcome.ensures;
    })
