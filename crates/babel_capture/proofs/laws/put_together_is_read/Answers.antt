use Rattle.babel_capture.proofs.PutTogetherLaws.{is_read_then, is_whole_then}
use Rattle.babel_capture.proofs.laws.put_together_is_read.Goals as goal

pub returns : goal.returns
returns c = record { whole = is_whole_then; read = is_read_then }
