-- The law is a lemma of OneOrigin.
use Rattle.babel_capture.proofs.OneOrigin.{named_is_one}
use Rattle.babel_capture.proofs.laws.named_is_one.Goals as goal

pub returns : goal.returns
returns c = named_is_one
