-- Only in mode Hold, and of a route.
use Rattle.babel_table.proofs.WipeLaws.{lasts-hold, lasts-plain}
use Rattle.babel_table.proofs.moment.lasts_twice.Goals as goal

pub returns-in-Plain : goal.returns-in-Plain
returns-in-Plain c = λ factor held is. rw c.in-Plain.is (lasts-plain factor held)

pub returns-in-Hold : goal.returns-in-Hold
returns-in-Hold c = λ factor held is. rw c.in-Hold.is (lasts-hold c.args.announces factor held is)
