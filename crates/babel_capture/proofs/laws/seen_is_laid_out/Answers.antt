use Rattle.babel_capture.proofs.SeenInFrames.{seen_in_frame}
use Rattle.babel_capture.proofs.laws.seen_is_laid_out.Goals as goal

pub returns : goal.returns
returns c = seen_in_frame
