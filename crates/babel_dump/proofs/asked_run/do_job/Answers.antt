use Rattle.babel_dump.proofs.AskedRuns.{did_so, keeps_left, refused_so}
use Rattle.babel_dump.proofs.asked_run.do_job.Goals as goal

pub returns-in-Err-clause-refused : goal.returns-in-Err-clause-refused
returns-in-Err-clause-refused g c =
    refused_so c.args.job.now _ _ _ _ _ _ c.new-first.ensures.begins c.begun_other-second.ensures.begins c.begins.ensures c.begins-2.ensures _ c.in-Err.ensures.err

pub returns-in-Ok-clause-done : goal.returns-in-Ok-clause-done
returns-in-Ok-clause-done g c =
    did_so c.args.job.now _ _ _ _ _ _ c.new-first.ensures.begins c.begun_other-second.ensures.begins c.begins.ensures c.begins-2.ensures c.args.seed c.begin.new.self _ _ _ _ c.in-Ok.ran.outcome _
    c.in_default.ensures.ok c.begin.ensures.same.0 c.begin.ensures.same.1 c.in_default.ensures.none (keeps_left _ _ _ c.into_device-first.ensures.gives c.new-first.ensures.kept)
    (keeps_left _ _ _ c.into_device-second.ensures.gives c.begun_other-second.ensures.kept) c.in-Ok.ensures c.in_ok-of_job-in-Ok.ensures
