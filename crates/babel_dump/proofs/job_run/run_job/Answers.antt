use Rattle.std.proofs.lemmas.Result.{err_from_is_err_and}
use Rattle.babel_dump.proofs.Finishing.{ran_job}
use Rattle.babel_dump.proofs.job_run.run_job.Goals as goal

pub returns : goal.returns
returns g c = rw c.in_ok-outcome.was at (ran_job _ _ _ _ _ c.find-found.result c.finish.result c.find-found.ensures c.finish.ensures)

pub returns-in_err-outcome : goal.returns-in_err-outcome
returns-in_err-outcome g c =
    let exit = err_from_is_err_and c.from_residual.result c.from_residual.ensures.1 in
    rw (exit.1, exit.2) (rw c.in_err-outcome.was at (ran_job _ _ _ _ _ c.find-found.result c.finish.result c.find-found.ensures c.finish.ensures))
