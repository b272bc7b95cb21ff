-- The laws of the definitions.
use Rattle.babel_trie.proofs.DifferenceLaws.{none_where_same, first_has_least, differences_are_fewest}
use Rattle.babel_trie.proofs.laws.differences_are_boxes.Goals as goal

pub returns-clause-none : goal.returns-clause-none
returns-clause-none g c = none_where_same

pub returns-clause-first : goal.returns-clause-first
returns-clause-first g c = first_has_least

pub returns-clause-fewest : goal.returns-clause-fewest
returns-clause-fewest g c = differences_are_fewest
