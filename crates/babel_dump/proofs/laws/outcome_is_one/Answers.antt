use Rattle.babel_dump.proofs.Outcomes.{fault_is_one_too, outcome_is_one, outcome_or_fault}
use Rattle.babel_dump.proofs.laws.outcome_is_one.Goals as goal

pub returns-clause-outcome : goal.returns-clause-outcome
returns-clause-outcome c = outcome_is_one

pub returns-clause-outcome_or_fault : goal.returns-clause-outcome_or_fault
returns-clause-outcome_or_fault c = outcome_or_fault

pub returns-clause-fault : goal.returns-clause-fault
returns-clause-fault c = fault_is_one_too
