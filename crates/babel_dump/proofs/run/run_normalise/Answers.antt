use Rattle.babel_dump.proofs.run.run_normalise.Goals as goal

pub returns : goal.returns
returns g c = rw c.all.ensures at c.run_task.ensures
