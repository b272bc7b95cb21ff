use Rattle.babel_dump.proofs.StartLaws.{nothing_behind}
use Rattle.babel_dump.proofs.follower.put_behind.Goals as goal

pub returns-in-Err-clause-behind : goal.returns-in-Err-clause-behind
returns-in-Err-clause-behind c = nothing_behind _ _ c.in-Err.ensures.items _
