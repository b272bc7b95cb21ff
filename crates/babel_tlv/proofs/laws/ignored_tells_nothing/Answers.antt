-- What is ignored tells nothing.
use Rattle.babel_tlv.proofs.TellsLaws.{ignored_tells_nothing}
use Rattle.babel_tlv.proofs.laws.ignored_tells_nothing.Goals as goal

pub returns : goal.returns
returns c = ignored_tells_nothing
