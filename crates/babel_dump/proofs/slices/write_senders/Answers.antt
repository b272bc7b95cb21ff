use Rattle.std.proofs.Common.{ap, flat_map}
use Rattle.babel_dump.specs.CaptureText.{named_in}
use Rattle.babel_dump.proofs.SenderLines.{broke_at_line, took_line}
use Rattle.babel_dump.proofs.SliceLaws.{front_at_err}
use Rattle.babel_dump.proofs.slices.write_senders.Goals as goal

pub returns-in_err-write_sender : goal.returns-in_err-write_sender
returns-in_err-write_sender g c =
    front_at_err _ _ _ c.from_residual.result c.from_residual.ensures.0
    (broke_at_line _ _ _ _ c.loop-origin.buffer.items _ _ _ c.loop-origin.invariant.took (ap (flat_map (named_in c.args.format.now c.args.gathered.now)) c.in-Some.ensures.steps)
    (rw (c.name-name.ensures, c.told-tally.ensures) at c.in_err-write_sender.ensures.front))

pub loop-origin-preserved : goal.loop-origin-preserved
loop-origin-preserved g c = record {
  took = took_line _ _ _ _ c.loop-origin.buffer.items _ _ _ _ c.loop-origin.invariant.took (ap (flat_map (named_in c.args.format.now c.args.gathered.now)) c.in-Some.ensures.steps)
      (rw (c.name-name.ensures, c.told-tally.ensures) at c.in_ok-write_sender.ensures.front);
  room = c.in_ok-write_sender.ensures.room;
}
