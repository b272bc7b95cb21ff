use Rattle.babel_canon.proofs.RoundTrip.{text_reads_back}
use Rattle.babel_canon.proofs.laws.text_reads_back.Goals as goal

pub returns : goal.returns
returns c = text_reads_back
