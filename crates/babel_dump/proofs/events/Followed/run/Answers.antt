-- It was followed to its end, and ended.
use Rattle.babel_dump.proofs.EventCauses.{at_end, err_exit, if_err_so}
use Rattle.babel_dump.proofs.FollowRuns.{followed_ended}
use Rattle.babel_dump.proofs.StartLaws.{on_err_more, on_err_so}
use Rattle.babel_dump.proofs.StartRuns.{start_at_end}
use Rattle.babel_dump.proofs.events.Followed.run.Goals as goal

pub returns-clause-tells : goal.returns-clause-tells
returns-clause-tells g c = followed_ended _ _ _ _ _ _ _ _ c.in_ok-follow.ensures.followed c.end.ensures.ends

pub returns-clause-cause : goal.returns-clause-cause
returns-clause-cause g c = if_err_so c.end.result (λ trouble fails. at_end c.args.events.now (g.R.ByteIn.state c.args.reader.now) _ (g.W.ByteOut.state c.args.writer.now) (g.W.ByteOut.state c.follow.new.writer) (g.W.ByteOut.state c.end.new.writer) _ trouble c.in_ok-follow.ensures.followed c.in_ok-follow.ensures.failures fails) c.end.ensures.cause

pub returns-in_err-follow-clause-cause : goal.returns-in_err-follow-clause-cause
returns-in_err-follow-clause-cause g c = err_exit c.from_residual.result c.from_residual.ensures.1 (λ trouble same. rw same c.in_err-follow.ensures.cause)

pub returns-clause-start : goal.returns-clause-start
returns-clause-start g c = on_err_more c.end.result (start_at_end c.args.events.now (g.R.ByteIn.state c.args.reader.now) _ (g.W.ByteOut.state c.args.writer.now) (g.W.ByteOut.state c.follow.new.writer) (g.W.ByteOut.state c.end.new.writer) _ c.in_ok-follow.ensures.followed) c.end.ensures.start

pub returns-in_err-follow-clause-start : goal.returns-in_err-follow-clause-start
returns-in_err-follow-clause-start g c = on_err_so c.from_residual.result c.in_err-follow.ensures.start
