use Rattle.babel_capture.proofs.LaidOutLaws.{other_in_family, other_in_frame}
use Rattle.babel_capture.proofs.laws.other_type_is_passed.Goals as goal

pub returns-clause-family : goal.returns-clause-family
returns-clause-family c = other_in_family

pub returns-clause-ether_type : goal.returns-clause-ether_type
returns-clause-ether_type c = other_in_frame
