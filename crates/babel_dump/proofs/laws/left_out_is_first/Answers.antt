use Rattle.babel_dump.proofs.FirstLeftOut.{none_is_left_out, refused_is_first}
use Rattle.babel_dump.proofs.laws.left_out_is_first.Goals as goal

pub returns-clause-none : goal.returns-clause-none
returns-clause-none c = none_is_left_out

pub returns-clause-first : goal.returns-clause-first
returns-clause-first c = refused_is_first
