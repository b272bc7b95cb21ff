use Rattle.babel_dump.proofs.EventCauses.{err_exit}
use Rattle.babel_dump.proofs.RefusedRecords.{told_unheard, usually_unheard}
use Rattle.babel_dump.proofs.follower.Follower.hear.Goals as goal

pub returns-in_err-hear_whole-clause-refused : goal.returns-in_err-hear_whole-clause-refused
returns-in_err-hear_whole-clause-refused c =
    err_exit c.from_residual.result c.from_residual.ensures.1 (λ stop is.
    told_unheard c.args.self.now.events.now c.args.told.now c.args.self.now c.hear_whole.new.self _ c.in_err-hear_whole.ensures.refused stop is)

pub returns-in_err-hear_whole-clause-usually : goal.returns-in_err-hear_whole-clause-usually
returns-in_err-hear_whole-clause-usually c usual =
    err_exit c.from_residual.result c.from_residual.ensures.1 (λ stop is.
    usually_unheard c.args.self.now.events.now c.args.told.now c.args.self.now _ c.in_err-hear_whole.ensures.refused stop is)
