-- In each mode, only what may add a row needs memory: the law of the definitions.
use Rattle.babel_table.proofs.OutcomeLaws.{routes_need_memory, keys_need_memory}
use Rattle.babel_table.proofs.laws.rows_need_memory.Goals as goal

pub returns-clause-plain : goal.returns-clause-plain
returns-clause-plain c = routes_need_memory

pub returns-clause-hold : goal.returns-clause-hold
returns-clause-hold c = keys_need_memory
