use Rattle.babel_capture.proofs.MemoryLaws.{fault-other}
use Rattle.babel_capture.proofs.laws.fault_is_of_octets.Goals as goal

pub returns : goal.returns
returns c = fault-other
