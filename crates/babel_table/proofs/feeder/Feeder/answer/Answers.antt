-- What was fed has no fault, and its table is that of the rows so far, in which the answer was looked up.
use Rattle.std.proofs.Common.{◌≡◌, refl, subst}
use Rattle.std.proofs.lemmas.Result.{err_from_is_err_and}
use Rattle.babel_prefix.specs.Entries.{answer_for}
use Rattle.babel_table.specs.RowFor.{IsBestOf, held_of, row_for}
use Rattle.babel_table.specs.Feeding.{Progress}
use Rattle.babel_table.specs.Rows.{entries_of}
use Rattle.babel_table.proofs.FeedLaws.{answered}
use Rattle.babel_table.proofs.feeder.Feeder.answer.Goals as goal

pub returns-in_err-check_end-clause-fault : goal.returns-in_err-check_end-clause-fault
returns-in_err-check_end-clause-fault c =
    let exit = err_from_is_err_and c.from_residual.result c.from_residual.ensures.1 in
    rw (exit.1, exit.2) c.in_err-check_end.ensures.fault

pub returns-clause-ok : goal.returns-clause-ok
returns-clause-ok c =
    let d = c.args.dst.now in
    let s = c.args.src.now in
    let report = c.self.inside.stream.so_far.report in
    answered c.args.self c.in_ok-check_end.ensures.ok.0 c.in_ok-check_end.ensures.ok.1 d s (record { row = c.lookup.result; report = report })
    (subst (λ (p : Progress). IsBestOf p.table.rows d s c.lookup.result) c.self.view_is c.lookup.ensures.best)
    (subst (λ (p : Progress). c.lookup.result ≡ row_for p.table.rows d s) c.self.view_is c.lookup.ensures.row)
    (subst (λ (p : Progress). held_of c.lookup.result ≡ answer_for (entries_of p.table.rows) d s) c.self.view_is c.lookup.ensures.held)
    (subst (λ (p : Progress). report ≡ p.table.report) c.self.view_is refl)
