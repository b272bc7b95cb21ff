-- The law is a lemma of OneExtract.
use Rattle.babel_dump.proofs.OneExtract.{named_is_not_several}
use Rattle.babel_dump.proofs.laws.named_interface_is_one.Goals as goal

pub returns : goal.returns
returns c = named_is_not_several
