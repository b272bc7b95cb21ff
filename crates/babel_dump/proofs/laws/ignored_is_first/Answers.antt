use Rattle.babel_dump.proofs.FirstIgnored.{first_is_first, none_is_none}
use Rattle.babel_dump.proofs.Rising.{offsets_of_dumps_rise}
use Rattle.babel_dump.proofs.laws.ignored_is_first.Goals as goal

pub returns-clause-none : goal.returns-clause-none
returns-clause-none c = none_is_none

pub returns-clause-first : goal.returns-clause-first
returns-clause-first c = first_is_first

pub returns-clause-rise : goal.returns-clause-rise
returns-clause-rise c = offsets_of_dumps_rise
