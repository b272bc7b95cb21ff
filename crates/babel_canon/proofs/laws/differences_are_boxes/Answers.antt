use Rattle.babel_canon.proofs.DifferenceLaws.{none_where_same, first_has_least, differences_are_fewest}
use Rattle.babel_canon.proofs.laws.differences_are_boxes.Goals as goal

pub returns-clause-none : goal.returns-clause-none
returns-clause-none c = none_where_same

pub returns-clause-fewest : goal.returns-clause-fewest
returns-clause-fewest c = differences_are_fewest

pub returns-clause-first : goal.returns-clause-first
returns-clause-first c = first_has_least
