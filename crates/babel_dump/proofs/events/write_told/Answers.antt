use Rattle.std.proofs.Common.{rules}
use Rattle.babel_dump.specs.Followed.{named_event}
use Rattle.babel_dump.proofs.SenderLines.{broke_at_line, took_line}
use Rattle.babel_dump.proofs.SliceLaws.{front_at_err, next_text}
use Rattle.babel_dump.proofs.events.write_told.Goals as goal

pub returns-in_err-write_kept : goal.returns-in_err-write_kept
returns-in_err-write_kept g c = record {
  front = front_at_err _ _ _ c.from_residual.result c.from_residual.ensures.0
      (broke_at_line _ _ _ _ c.loop-telling.buffer.items _ _ _ c.loop-telling.invariant.took
      (next_text (named_event c.args.events.now c.args.gathered.now) c.args.told.now c.loop-telling.telling-index c.telling-item.result c.loop-telling-test.true c.telling-item.is)
      c.in_err-write_kept.ensures.front);
  room = search rules;
}

pub loop-telling-preserved : goal.loop-telling-preserved
loop-telling-preserved g c = record {
  took = took_line _ _ _ _ c.loop-telling.buffer.items _ _ _ _ c.loop-telling.invariant.took
      (next_text (named_event c.args.events.now c.args.gathered.now) c.args.told.now c.loop-telling.telling-index c.telling-item.result c.loop-telling-test.true c.telling-item.is)
      c.in_ok-write_kept.ensures.front;
  room = c.in_ok-write_kept.ensures.room;
}
