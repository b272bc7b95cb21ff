use Rattle.std.proofs.Common.{inl, inr, refl}
use Rattle.std.proofs.KnownBytes.{Appends-nil}
use Rattle.babel_dump.proofs.StartRuns.{start_of_run}
use Rattle.babel_dump.proofs.AskedRuns.{failed_with, no_memory, told_so}
use Rattle.babel_dump.specs.Device.{InputState}
use Rattle.babel_dump.proofs.EventCauses.{err_exit}
use Rattle.babel_dump.proofs.asked_run.tell_events.Goals as goal

pub returns-clause-told : goal.returns-clause-told
returns-clause-told g c = told_so c.args.events.now (g.R.Read.remaining c.args.reader) _ _ _ _ c.in_ok-answer.answer _ c.new-2.ensures refl c.in_ok-answer.ensures.tells c.in_ok-of_events.ensures

pub returns-in_err-done-clause-failed : goal.returns-in_err-done-clause-failed
returns-in_err-done-clause-failed g c =
    let nothing : InputState = record { left = g.R.Read.remaining c.args.reader; failures = 0; reads = 0; ends = 0 } in
    err_exit c.from_residual.result c.from_residual.ensures.1 (λ trouble memory. no_memory c.args.events.now (g.R.Read.remaining c.args.reader) nothing nothing nothing _ trouble refl refl memory (inl (Appends-nil (g.W.ByteOut.state c.args.writer.now).taken)))

pub returns-in_err-answer-clause-failed : goal.returns-in_err-answer-clause-failed
returns-in_err-answer-clause-failed g c =
    err_exit c.from_residual-in_err-answer.result c.from_residual-in_err-answer.ensures.1 (λ trouble same.
    failed_with c.args.events.now (g.R.Read.remaining c.args.reader) _ _ _ _ _ trouble c.new-2.ensures refl same c.in_err-answer.ensures.cause c.in_err-answer.ensures.start)

pub returns-in_err-of_events-clause-failed : goal.returns-in_err-of_events-clause-failed
returns-in_err-of_events-clause-failed g c =
    err_exit c.from_residual-in_err-of_events.result c.from_residual-in_err-of_events.ensures.1 (λ trouble memory.
    no_memory c.args.events.now (g.R.Read.remaining c.args.reader) _ _ _ _ trouble c.new-2.ensures refl memory (inr (start_of_run c.args.events.now _ _ _ c.in_ok-answer.answer c.in_ok-answer.ensures.tells)))
