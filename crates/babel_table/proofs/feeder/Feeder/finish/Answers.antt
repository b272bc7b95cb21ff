-- What was fed has no fault, and its table is that of the rows so far.
use Rattle.std.proofs.Common.{◌≡◌, subst, inl}
use Rattle.std.specs.Prelude.{IfOk}
use Rattle.std.proofs.lemmas.Result.{err_from_is_err_and}
use Rattle.babel_table.specs.Feeding.{Progress}
use Rattle.babel_table.proofs.FeedLaws.{finished, unfinished}
use Rattle.babel_table.proofs.feeder.Feeder.finish.Goals as goal

pub returns-in_err-check_end-clause-fault : goal.returns-in_err-check_end-clause-fault
returns-in_err-check_end-clause-fault c =
    let exit = err_from_is_err_and c.from_residual.result c.from_residual.ensures.1 in
    rw (exit.1, exit.2) c.in_err-check_end.ensures.fault

pub returns-in_err-check_end-clause-memory : goal.returns-in_err-check_end-clause-memory
returns-in_err-check_end-clause-memory c =
    let exit = err_from_is_err_and c.from_residual.result c.from_residual.ensures.1 in
    rw (exit.1, exit.2) (λ is. inl (c.in_err-check_end.ensures.memory is))

pub returns-clause-ok : goal.returns-clause-ok
returns-clause-ok c =
    finished c.args.self c.in_ok-check_end.ensures.ok.0 c.in_ok-check_end.ensures.ok.1 c.of.result
    (subst (λ (p : Progress). IfOk c.of.result (λ table. table ≡ p.table)) c.self.view_is c.of.ensures.ok)

pub returns-clause-memory : goal.returns-clause-memory
returns-clause-memory c = unfinished c.args.self c.in_ok-check_end.ensures.ok.0 c.in_ok-check_end.ensures.ok.1 c.of.result
