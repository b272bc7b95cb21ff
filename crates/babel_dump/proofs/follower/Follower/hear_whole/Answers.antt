use Rattle.std.proofs.Common.{subst, sym}
use Rattle.babel_dump.specs.Followed.{RefusesUnheard}
use Rattle.babel_dump.proofs.EventCauses.{err_exit}
use Rattle.babel_capture.specs.Sinking.{missed_said}
use Rattle.babel_dump.specs.EventsRun.{requests_made, told_from}
use Rattle.babel_dump.proofs.HeardRecords.{heard_and_lost}
use Rattle.babel_dump.proofs.HeardRequests.{told_both}
use Rattle.babel_dump.proofs.follower.Follower.hear_whole.Goals as goal

pub returns-clause-heard : goal.returns-clause-heard
returns-clause-heard c made one before told was =
    let old = c.args.self.now.hearing in
    let mid = c.hear_record.new.self in
    heard_and_lost c.args.self.now.events.now made one before c.args.self.now.told.items c.request.new.told.items old mid c.lose.new.self
    c.hear_record.ensures.lost c.lose.ensures.same (missed_said c.args.told.now.said) told.missed c.args.told.now.time told.time (λ suits. c.in_ok-hear_record.ensures.heard one suits told)
    c.hear_record.ensures.untimed c.in_ok-hear_record.ensures.from
    (told_both old.lost mid.lost c.hear_record.ensures.lost c.args.self.now.told.items c.hear_record.new.told.items c.request.new.told.items mid.printed.items
    (told_from mid.since.moment (requests_made c.args.self.now.events.now one)) c.in_ok-hear_record.ensures.told (c.in_ok-request.ensures one told))
    c.in_ok-lose.ensures.lost was

pub returns-in_err-hear_record-clause-refused : goal.returns-in_err-hear_record-clause-refused
returns-in_err-hear_record-clause-refused c suits =
    err_exit c.from_residual.result c.from_residual.ensures.1 (λ why same. subst (RefusesUnheard c.args.self.now.events.now c.args.told.now c.args.self.now.hearing.teller) (sym same) (c.in_err-hear_record.ensures.refused suits))

pub returns-in_err-request-clause-refused : goal.returns-in_err-request-clause-refused
returns-in_err-request-clause-refused c suits =
    err_exit c.from_residual-in_err-request.result c.from_residual-in_err-request.ensures.1 (λ why memory. subst (RefusesUnheard c.args.self.now.events.now c.args.told.now c.args.self.now.hearing.teller) (sym memory) tt)

pub returns-in_err-lose-clause-refused : goal.returns-in_err-lose-clause-refused
returns-in_err-lose-clause-refused c suits =
    err_exit c.from_residual-in_err-lose.result c.from_residual-in_err-lose.ensures.1 (λ why memory. subst (RefusesUnheard c.args.self.now.events.now c.args.told.now c.args.self.now.hearing.teller) (sym memory) tt)

pub returns-in_err-add_remarks-clause-refused : goal.returns-in_err-add_remarks-clause-refused
returns-in_err-add_remarks-clause-refused c suits =
    err_exit c.from_residual-in_err-add_remarks.result c.from_residual-in_err-add_remarks.ensures.1 (λ why memory. subst (RefusesUnheard c.args.self.now.events.now c.args.told.now c.args.self.now.hearing.teller) (sym memory) tt)
