-- A fault other than that of a cut stays as octets come: the law of the definitions.
use Rattle.babel_table.proofs.OutcomeLaws.{fault_stays}
use Rattle.babel_table.proofs.laws.fault_stays.Goals as goal

pub returns : goal.returns
returns c = fault_stays
