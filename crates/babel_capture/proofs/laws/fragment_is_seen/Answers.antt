use Rattle.babel_capture.proofs.PartLaws.{part_in_frame}
use Rattle.babel_capture.proofs.laws.fragment_is_seen.Goals as goal

pub returns : goal.returns
returns c = part_in_frame
