use Rattle.std.proofs.lemmas.Result.{err_from_is_err_and}
use Rattle.babel_capture.proofs.capture.Capture.finish_at_cut.Goals as goal

pub returns-in_err-cut-clause-fault : goal.returns-in_err-cut-clause-fault
returns-in_err-cut-clause-fault g c =
    let exit = err_from_is_err_and c.from_residual.result c.from_residual.ensures.1 in
    rw (exit.1, exit.2) (λ not fed. c.in_err-cut.ensures.fault not fed)
