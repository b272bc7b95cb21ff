-- The laws are lemmas of OneFault.
use Rattle.babel_capture.proofs.OneFault.{cut_is_the_fault, fault_is_one, read_has_no_fault}
use Rattle.babel_capture.proofs.laws.outcome_is_one.Goals as goal

pub returns-clause-read : goal.returns-clause-read
returns-clause-read c = read_has_no_fault

pub returns-clause-cut : goal.returns-clause-cut
returns-clause-cut c = cut_is_the_fault

pub returns-clause-fault : goal.returns-clause-fault
returns-clause-fault c = fault_is_one
