-- The laws are lemmas of OneOrigin.
use Rattle.babel_capture.proofs.OneOrigin.{alone_is_the_same, missing_is_none}
use Rattle.babel_capture.proofs.laws.alone_is_the_same.Goals as goal

pub returns-clause-whole : goal.returns-clause-whole
returns-clause-whole c = alone_is_the_same

pub returns-clause-missing : goal.returns-clause-missing
returns-clause-missing c = missing_is_none
