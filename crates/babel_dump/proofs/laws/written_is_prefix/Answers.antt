use Rattle.babel_dump.proofs.Outcomes.{nothing_written, written_is_prefix}
use Rattle.babel_dump.proofs.laws.written_is_prefix.Goals as goal

pub returns-clause-prefix : goal.returns-clause-prefix
returns-clause-prefix c = written_is_prefix

pub returns-clause-nothing : goal.returns-clause-nothing
returns-clause-nothing c = nothing_written
