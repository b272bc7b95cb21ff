use Rattle.babel_canon.specs.Normalises.{as_they_are}
use Rattle.babel_canon.proofs.OneOutcome.{form_is_one, form_has_no_fault, normalise_fault_is_one}
use Rattle.babel_canon.proofs.laws.normal_form_is_one.Goals as goal

pub returns-clause-text : goal.returns-clause-text
returns-clause-text c = form_is_one as_they_are

pub returns-clause-fault : goal.returns-clause-fault
returns-clause-fault c = normalise_fault_is_one

pub returns-clause-no_fault : goal.returns-clause-no_fault
returns-clause-no_fault c = form_has_no_fault as_they_are
