use Rattle.babel_dump.proofs.EventCauses.{err_exit}
use Rattle.babel_dump.proofs.RefusedRecords.{told_unheard}
use Rattle.babel_dump.proofs.follower.Follower.hear_strictly.Goals as goal

pub returns-in_err-hear_whole-in-Nothing-clause-refused : goal.returns-in_err-hear_whole-in-Nothing-clause-refused
returns-in_err-hear_whole-in-Nothing-clause-refused c =
    err_exit c.from_residual.result c.from_residual.ensures.1 (λ stop is.
    told_unheard c.args.self.now.events.now c.args.told.now c.args.self.now c.hear_whole.new.self _ c.in_err-hear_whole-in-Nothing.ensures.refused stop is)
