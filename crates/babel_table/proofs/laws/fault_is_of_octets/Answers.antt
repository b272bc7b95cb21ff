-- Octets have no fault that is about something else: the law of the definitions.
use Rattle.babel_table.proofs.OutcomeLaws.{fault_is_of_octets}
use Rattle.babel_table.proofs.laws.fault_is_of_octets.Goals as goal

pub returns : goal.returns
returns c = fault_is_of_octets
