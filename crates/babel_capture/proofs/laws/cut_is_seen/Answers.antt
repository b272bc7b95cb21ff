use Rattle.babel_capture.proofs.LaidOutLaws.{cut_in_frame}
use Rattle.babel_capture.proofs.laws.cut_is_seen.Goals as goal

pub returns : goal.returns
returns c = cut_in_frame
