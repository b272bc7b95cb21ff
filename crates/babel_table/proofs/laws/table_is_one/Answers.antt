-- No octets have two tables: the law of the definitions.
use Rattle.babel_table.proofs.OutcomeLaws.{table_is_one}
use Rattle.babel_table.proofs.laws.table_is_one.Goals as goal

pub returns : goal.returns
returns c = table_is_one
