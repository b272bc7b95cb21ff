use Rattle.babel_dump.proofs.Finishing.{given_weaker}
use Rattle.babel_dump.proofs.job_run.find_of_dump.Goals as goal

pub returns-in-Lookup : goal.returns-in-Lookup
returns-in-Lookup g c = rw c.in-Lookup.is (given_weaker _ _ _ _ _ c.find_answer.ensures)
