use Rattle.babel_capture.proofs.LaidOutLaws.{seen_in_frame}
use Rattle.babel_capture.proofs.laws.laid_out_is_seen.Goals as goal

pub returns : goal.returns
returns c = seen_in_frame
