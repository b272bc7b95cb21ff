use Rattle.std.proofs.Common.{inl, inr}
use Rattle.std.proofs.KnownBytes.{Appends-nil}
use Rattle.babel_dump.specs.Run.{output}
use Rattle.babel_dump.proofs.EventCauses.{cause_named, cause_of_memory, cause_of_none, err_exit}
use Rattle.babel_dump.proofs.StartLaws.{on_err_so}
use Rattle.babel_dump.proofs.events.run_events.Goals as goal

pub returns-in_err-followed-clause-cause : goal.returns-in_err-followed-clause-cause
returns-in_err-followed-clause-cause g c =
    err_exit c.from_residual.result c.from_residual.ensures.1 (λ trouble same.
    cause_of_none c.args.events.now (g.R.ByteIn.state c.args.reader.now) (g.R.ByteIn.state c.args.reader.now) (output (g.W.ByteOut.state c.args.writer.now) (g.W.ByteOut.state c.args.writer.now)) trouble
    (rw same c.in_err-followed.ensures.memory))

pub returns-in_err-add_name-in-Err-clause-cause : goal.returns-in_err-add_name-in-Err-clause-cause
returns-in_err-add_name-in-Err-clause-cause g c =
    err_exit c.from_residual-in_err-add_name-in-Err.result c.from_residual-in_err-add_name-in-Err.ensures.1 (λ trouble memory.
    cause_of_memory c.args.events.now (g.R.ByteIn.state c.args.reader.now) (g.R.ByteIn.state c.run.new.reader) (output (g.W.ByteOut.state c.args.writer.now) (g.W.ByteOut.state c.run.new.writer)) trouble memory)

pub returns-clause-cause : goal.returns-clause-cause
returns-clause-cause g c =
    cause_named c.args.events.now (g.R.ByteIn.state c.args.reader.now) (g.R.ByteIn.state c.run.new.reader) (output (g.W.ByteOut.state c.args.writer.now) (g.W.ByteOut.state c.run.new.writer)) _ _
    c.add_name.ensures c.in-Err.ensures.cause

pub returns-in_err-followed-clause-start : goal.returns-in_err-followed-clause-start
returns-in_err-followed-clause-start g c = on_err_so c.from_residual.result (inl (Appends-nil (g.W.ByteOut.state c.args.writer.now).taken))

pub returns-in_err-add_name-in-Err-clause-start : goal.returns-in_err-add_name-in-Err-clause-start
returns-in_err-add_name-in-Err-clause-start g c = on_err_so c.from_residual-in_err-add_name-in-Err.result (inr c.in-Err.ensures.start)

pub returns-clause-start : goal.returns-clause-start
returns-clause-start g c = inr c.in-Err.ensures.start
