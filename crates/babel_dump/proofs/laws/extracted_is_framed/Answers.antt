-- The law is a lemma of ExtractFraming.
use Rattle.babel_dump.proofs.ExtractFraming.{extracted_is_framed}
use Rattle.babel_dump.proofs.laws.extracted_is_framed.Goals as goal

pub returns : goal.returns
returns c = extracted_is_framed
