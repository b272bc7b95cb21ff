-- What was heard has no fault, and its table at the moment has the words that have not expired.
use Rattle.std.proofs.Common.{◌≡◌, true, subst}
use Rattle.std.specs.Prelude.{IfOk}
use Rattle.std.proofs.lemmas.Result.{err_from_is_err_and}
use Rattle.babel_table.specs.Feeding.{Progress}
use Rattle.babel_table.specs.Words.{rows_at}
use Rattle.babel_table.proofs.FeedLaws.{unfinished}
use Rattle.babel_table.proofs.TimedLaws.{finished-at, sound-at}
use Rattle.babel_table.proofs.feeder.Feeder.finish_at.Goals as goal

pub returns-in_err-check_end-clause-fault : goal.returns-in_err-check_end-clause-fault
returns-in_err-check_end-clause-fault c =
    let exit = err_from_is_err_and c.from_residual.result c.from_residual.ensures.1 in
    rw (exit.1, exit.2) c.in_err-check_end.ensures.fault

pub returns-clause-no_fault : goal.returns-clause-no_fault
returns-clause-no_fault c = sound-at c.args.self c.in_ok-check_end.ensures.ok.0 c.in_ok-check_end.ensures.ok.1 c.at.result

pub returns-clause-ok : goal.returns-clause-ok
returns-clause-ok c =
    finished-at c.args.self c.in_ok-check_end.ensures.ok.0 c.in_ok-check_end.ensures.ok.1 c.args.moment c.at.result
    (subst (λ (p : Progress). IfOk c.at.result (λ table. table.report ≡ p.table.report)) c.self.view_is c.at.ensures.report)
    (subst (λ (p : Progress). p.runs ≡ true → IfOk c.at.result (λ table. table.rows ≡ rows_at p.mode p.factor c.args.moment p.words)) c.self.view_is c.at.ensures.rows)

pub returns-clause-memory : goal.returns-clause-memory
returns-clause-memory c = unfinished c.args.self c.in_ok-check_end.ensures.ok.0 c.in_ok-check_end.ensures.ok.1 c.at.result
