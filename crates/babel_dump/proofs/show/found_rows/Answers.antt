use Rattle.std.proofs.Common.{Bool, sym, ap, ◌∙◌}
use Rattle.babel_table.specs.Counts.{Counts}
use Rattle.babel_dump.specs.Filter.{kept_rows}
use Rattle.babel_dump.specs.Summary.{shown_in, summary_in, summary_of}
use Rattle.babel_dump.specs.declared.summary.Summary.{Summary}
use Rattle.babel_dump.proofs.FoundLaws.{told}
use Rattle.babel_dump.proofs.show.found_rows.Goals as goal

pub returns-then-summary : goal.returns-then-summary
returns-then-summary c =
    let table = c.args.table in
    let format = c.args.format.now in
    let quiet = c.args.quiet in
    told _ table.report 0 _ _ _ format c.text.result (c.text.ensures.text format) c.text.ensures.outcome
    (c.in_ok-text.ensures ∙ ap (λ (s : Summary). summary_in format quiet s c.report-then-summary.result.now) c.in_ok-summary.ensures
    ∙ ap (λ (r : Counts). summary_in format quiet (summary_of (kept_rows c.args.filter table.rows)) r) c.report-then-summary.ensures
    ∙ sym (ap (λ (b : Bool). shown_in format c.args.filter b quiet table) c.if-summary.true))
    c.of_dump-outcome.ensures c.report.ensures
