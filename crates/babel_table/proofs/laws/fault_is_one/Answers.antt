-- No octets have two faults: the law of the definitions.
use Rattle.babel_table.proofs.OutcomeLaws.{fault_is_one}
use Rattle.babel_table.proofs.laws.fault_is_one.Goals as goal

pub returns : goal.returns
returns c = fault_is_one
