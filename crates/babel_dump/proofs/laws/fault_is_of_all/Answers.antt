use Rattle.babel_dump.proofs.Outcomes.{fault_is_of_all}
use Rattle.babel_dump.proofs.laws.fault_is_of_all.Goals as goal

pub returns : goal.returns
returns c = fault_is_of_all
