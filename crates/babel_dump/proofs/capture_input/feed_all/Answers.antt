-- What a reader gives is fed, and a sink takes the packets of it.
use Rattle.std.proofs.Common.{rules, ◌∙◌, ◌+◌, ◌<◌, ap, arith, refl}
use Rattle.std.proofs.lemmas.Result.{err_from_is_err_and}
use Rattle.babel_capture.specs.Window.{Extent}
use Rattle.babel_dump.proofs.CaptureFeeding.{fed_fault, fed_more, fed_none, fed_whole, fed_within, took_stopped}
use Rattle.babel_dump.proofs.Devices.{gave_itself}
use Rattle.babel_dump.proofs.capture_input.feed_all.Goals as goal

pub reads-init : goal.reads-init
reads-init g c = record {
  from = record { limit = c.requires.limit; wanted = refl };
  no_fault = c.requires.no_fault;
  given = fed_none g.S.Sink.has c.args.sink.now c.args.capture.now (g.R.ByteIn.state c.args.reader.now) c.requires.no_fault c.requires.fresh (gave_itself (g.R.ByteIn.state c.args.reader.now));
  no_failure = refl;
  no_end = refl;
  reads = omega arith;
}

pub returns-in-Ok-eq0-clause-gathered : goal.returns-in-Ok-eq0-clause-gathered
returns-in-Ok-eq0-clause-gathered g c =
    let ends = c.in-Ok-eq0.ensures in record {
      made = fed_whole g.S.Sink.has c.args.sink.now _ c.reads.capture c.reads.sink (g.R.ByteIn.state c.reads.reader) c.reads.counter c.read.new.buf c.reads.invariant.no_fault
          c.reads.invariant.given (search rules) (search rules) (search rules);
      cause = tt;
      called = search rules;
    }

pub returns-in_err-feed-in-Ok-clause-gathered : goal.returns-in_err-feed-in-Ok-clause-gathered
returns-in_err-feed-in-Ok-clause-gathered g c =
    let so_far = c.reads.invariant in
    let fed = c.in_err-feed-in-Ok.ensures in
    let exit = err_from_is_err_and c.from_residual.result c.from_residual.ensures.1 in record {
      made = search rules;
      cause = rw (exit.1, exit.2) (fed_fault g.S.Sink.has c.args.sink.now _ c.reads.capture c.feed.new.self c.reads.sink _ c.reads.counter c.in-Ok.n _ _
          (record { limit = fed.same.0 ∙ so_far.from.limit; wanted = fed.same.1 ∙ so_far.from.wanted }) so_far.no_fault so_far.given c.in-Ok.ensures.octets.0 fed.fed fed.err);
      called = search rules;
    }

pub reads-preserved : goal.reads-preserved
reads-preserved g c =
    let so_far = c.reads.invariant in
    let fed = c.in_ok-feed-in-Ok.ensures in record {
      from = record { limit = fed.same.0 ∙ so_far.from.limit; wanted = fed.same.1 ∙ so_far.from.wanted };
      no_fault = fed.ok.1;
      given = fed_more g.S.Sink.has c.args.sink.now c.reads.capture c.feed.new.self c.reads.sink c.feed.new.sink _ _ _ c.reads.counter c.in-Ok.n c.read.new.buf so_far.given fed.same.0
          c.in-Ok.ensures.octets.0 fed.sunk (search rules) (search rules);
      no_failure = search rules;
      no_end = search rules;
      reads = search rules;
    }

pub unreachable-requires : goal.unreachable-requires
unreachable-requires g c =
    let within : c.reads.counter < c.reads.capture.limit.octets + 24 =
    fed_within g.S.Sink.has c.args.sink.now c.reads.capture c.reads.sink _ _ c.reads.counter c.reads.invariant.given in
    let limit = ap (λ (e : Extent). e.octets) c.reads.invariant.from.limit in
    omega (arith, within, limit, c.reads-test.false, c.from-end.ensures)

pub returns-in_err-feed-in-Ok-clause-took : goal.returns-in_err-feed-in-Ok-clause-took
returns-in_err-feed-in-Ok-clause-took g c =
    took_stopped g.S.Sink.has c.args.sink.now _ c.reads.capture c.reads.sink c.feed.new.sink _ c.reads.counter c.in-Ok.n c.read.new.buf c.reads.invariant.from c.reads.invariant.given
    c.in-Ok.ensures.octets.0 (c.in_err-feed-in-Ok.ensures.stopped c.reads.invariant.no_fault)
