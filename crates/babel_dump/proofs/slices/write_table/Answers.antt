use Rattle.babel_dump.proofs.KeptLines.{next_kept}
use Rattle.babel_dump.proofs.SenderLines.{broke_at_line, took_line}
use Rattle.babel_dump.proofs.SliceLaws.{front_at_err}
use Rattle.babel_dump.proofs.slices.write_table.Goals as goal

pub returns-in_err-write_kept : goal.returns-in_err-write_kept
returns-in_err-write_kept g c =
    front_at_err _ _ _ c.from_residual.result c.from_residual.ensures.0
    (broke_at_line _ _ _ _ c.loop-key.buffer.items _ _ _ c.loop-key.invariant.took (next_kept c.args.format.now c.args.view c.args.filter.now _ _ _ c.in-Some.ensures.steps)
    c.in_err-write_kept.ensures.front)

pub loop-key-preserved : goal.loop-key-preserved
loop-key-preserved g c = record {
  took = took_line _ _ _ _ c.loop-key.buffer.items _ _ _ _ c.loop-key.invariant.took (next_kept c.args.format.now c.args.view c.args.filter.now _ _ _ c.in-Some.ensures.steps)
      c.in_ok-write_kept.ensures.front;
  room = c.in_ok-write_kept.ensures.room;
}
