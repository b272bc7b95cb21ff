-- No octets have two tables: the law of the definitions.
use Rattle.babel_table.proofs.HopLaws.{hops_fit}
use Rattle.babel_table.proofs.laws.hops_fit.Goals as goal

pub returns : goal.returns
returns c = hops_fit
