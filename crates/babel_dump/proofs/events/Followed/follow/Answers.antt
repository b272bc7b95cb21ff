-- Nothing was read yet; one more piece, of which all was taken; and the end.
use Rattle.std.proofs.Common.{rules, arith, refl, ◌∙◌}
use Rattle.babel_dump.specs.Run.{output}
use Rattle.babel_dump.proofs.EventCauses.{at_piece, at_read, err_exit}
use Rattle.babel_dump.proofs.FollowRuns.{followed_more, followed_none, followed_whole, followed_within}
use Rattle.babel_dump.proofs.StartLaws.{on_err_so}
use Rattle.babel_dump.proofs.StartRuns.{start_at_piece, start_at_read}
use Rattle.babel_dump.proofs.events.Followed.follow.Goals as goal

pub reads-init : goal.reads-init
reads-init g c = record {
  followed = followed_none _ _ _ _ c.requires.none;
  told = c.requires.told;
  empty = c.requires.empty;
  room = c.requires.room;
  no_failure = refl;
  no_end = refl;
  reads = omega arith;
  failures = refl;
  flushes = omega arith;
}

pub reads-preserved : goal.reads-preserved
reads-preserved g c =
    let took = c.in_ok-take-in-Ok.ensures in record {
      followed = followed_more _ _ _ _ _ _ _ _ _ c.reads.counter c.in-Ok.n c.read.new.buf c.reads.invariant.followed c.in-Ok.ensures.octets.0 (search rules) (search rules) took.followed;
      told = took.told;
      empty = took.empty;
      room = took.room;
      no_failure = search rules;
      no_end = search rules;
      reads = search rules;
      failures = took.failures ∙ c.reads.invariant.failures;
      flushes = search rules;
    }

pub returns-in-Ok-eq0-clause-followed : goal.returns-in-Ok-eq0-clause-followed
returns-in-Ok-eq0-clause-followed g c =
    let none = c.in-Ok-eq0.field-0-test in
    followed_whole _ c.reads.self _ _ _ _ c.reads.counter c.read.new.buf c.reads.invariant.followed (rw none at c.in-Ok-eq0.ensures.octets.0)
    (c.in-Ok-eq0.ensures.octets.1 none (search rules)) (search rules)

pub unreachable-requires : goal.unreachable-requires
unreachable-requires g c =
    let within = followed_within _ c.reads.self _ _ _ c.reads.counter c.reads.invariant.followed in
    omega (arith, within, c.reads-test.false)

pub returns-in_err-take-in-Ok-clause-cause : goal.returns-in_err-take-in-Ok-clause-cause
returns-in_err-take-in-Ok-clause-cause g c =
    err_exit c.from_residual.result c.from_residual.ensures.1 (λ trouble same.
    at_piece c.args.events.now (g.R.ByteIn.state c.args.reader.now) (g.R.ByteIn.state c.reads.reader) _ (g.W.ByteOut.state c.args.writer.now) (g.W.ByteOut.state c.reads.writer) (g.W.ByteOut.state c.take.new.writer) c.reads.counter c.reads.self _ trouble c.reads.invariant.followed c.in-Ok.ensures.octets.0 c.reads.invariant.failures (rw same c.in_err-take-in-Ok.ensures.cause))

pub returns-in-Err-clause-cause : goal.returns-in-Err-clause-cause
returns-in-Err-clause-cause g c = at_read c.args.events.now (g.R.ByteIn.state c.args.reader.now) _ (output (g.W.ByteOut.state c.args.writer.now) (g.W.ByteOut.state c.reads.writer)) _ c.from.ensures (search rules)

pub returns-in_err-take-in-Ok-clause-start : goal.returns-in_err-take-in-Ok-clause-start
returns-in_err-take-in-Ok-clause-start g c =
    on_err_so c.from_residual.result
    (start_at_piece c.args.events.now (g.R.ByteIn.state c.args.reader.now) (g.R.ByteIn.state c.reads.reader) _ (g.W.ByteOut.state c.args.writer.now) (g.W.ByteOut.state c.reads.writer) (g.W.ByteOut.state c.take.new.writer) c.reads.counter c.reads.self _ c.reads.invariant.followed
    c.in-Ok.ensures.octets.0 c.in_err-take-in-Ok.ensures.start)

pub returns-in-Err-clause-start : goal.returns-in-Err-clause-start
returns-in-Err-clause-start g c =
    start_at_read c.args.events.now (g.R.ByteIn.state c.args.reader.now) (g.R.ByteIn.state c.reads.reader) _ (output (g.W.ByteOut.state c.args.writer.now) (g.W.ByteOut.state c.reads.writer)) c.reads.counter c.reads.self c.reads.invariant.followed c.in-Err.ensures.octets
    c.reads.invariant.told
