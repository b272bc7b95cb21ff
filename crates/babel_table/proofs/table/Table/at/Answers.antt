-- The rows that are listed are those that are left.
use Rattle.std.proofs.Common.{◌∙◌}
use Rattle.babel_table.proofs.table.Table.at.Goals as goal

pub returns-clause-rows : goal.returns-clause-rows
returns-clause-rows c = λ runs. c.in_ok-listed.ensures ∙ c.leave.ensures runs
