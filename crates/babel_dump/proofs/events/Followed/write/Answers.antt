use Rattle.std.proofs.Common.{◌<◌, arith}
use Rattle.babel_dump.proofs.EventCauses.{err_exit, of_write}
use Rattle.babel_dump.proofs.EventLineLaws.{wrote_lines}
use Rattle.babel_dump.proofs.StartLaws.{on_err_so}
use Rattle.babel_dump.proofs.StartRuns.{broke_last, broke_lines}
use Rattle.babel_dump.proofs.events.Followed.write.Goals as goal

pub returns-clause-lines : goal.returns-clause-lines
returns-clause-lines g c =
    wrote_lines c.args.events.now c.gathered-gathered.result.now c.args.self.now.follower.told.items _ (g.W.ByteOut.state c.write_told.new.writer) _ c.write_told.new.buffer.items
    (rw c.deref.ensures.value at c.in_ok-write_told.ensures.front) (rw c.deref-2.ensures.value at c.in_ok-write_text.ensures.whole)

pub returns-in_err-write_told-clause-cause : goal.returns-in_err-write_told-clause-cause
returns-in_err-write_told-clause-cause g c =
    err_exit c.from_residual.result c.from_residual.ensures.1 (λ trouble is. of_write c.args.events.now (λ _. ⊥) ⊥ ⊥ ((g.W.ByteOut.state c.args.writer.now).failures < (g.W.ByteOut.state c.write_told.new.writer).failures) (λ _. ⊥) trouble is (omega (arith, c.in_err-write_told.ensures.front.one_failure)))

pub returns-in_err-write_text-clause-cause : goal.returns-in_err-write_text-clause-cause
returns-in_err-write_text-clause-cause g c =
    err_exit c.from_residual-in_err-write_text.result c.from_residual-in_err-write_text.ensures.1 (λ trouble is.
    of_write c.args.events.now (λ _. ⊥) ⊥ ⊥ ((g.W.ByteOut.state c.args.writer.now).failures < (g.W.ByteOut.state c.write_text.new.writer).failures) (λ _. ⊥) trouble is (omega (arith, c.in_ok-write_told.ensures.front.no_failure, c.in_err-write_text.ensures.cause)))

pub returns-in_err-write_told-clause-some : goal.returns-in_err-write_told-clause-some
returns-in_err-write_told-clause-some g c =
    on_err_so c.from_residual.result (broke_lines c.args.events.now c.gathered-gathered.result.now c.args.self.now.follower.told.items _ _ (rw c.deref.ensures.value at c.in_err-write_told.ensures.front))

pub returns-in_err-write_text-clause-some : goal.returns-in_err-write_text-clause-some
returns-in_err-write_text-clause-some g c =
    on_err_so c.from_residual-in_err-write_text.result
    (broke_last c.args.events.now c.gathered-gathered.result.now c.args.self.now.follower.told.items _ (g.W.ByteOut.state c.write_told.new.writer) _ c.write_told.new.buffer.items
    (rw c.deref.ensures.value at c.in_ok-write_told.ensures.front) (rw c.deref-2.ensures.value at c.in_err-write_text.ensures.prefix))
