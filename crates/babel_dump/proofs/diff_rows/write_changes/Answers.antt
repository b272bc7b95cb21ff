use Rattle.std.proofs.Common.{◌++◌, flat_map, refl}
use Rattle.babel_dump.specs.Changes.{changes_left}
use Rattle.babel_dump.specs.DiffText.{change_text, marked_row}
use Rattle.babel_dump.specs.declared.run_fault.Side.TheVariants as sides
use Rattle.babel_dump.proofs.DiffLines.{broke_second, next_change}
use Rattle.babel_dump.proofs.SenderLines.{broke_at_line, took_line}
use Rattle.babel_dump.proofs.SliceLaws.{front_at_err}
use Rattle.babel_dump.proofs.diff_rows.write_changes.Goals as goal

pub returns-in_err-write_row : goal.returns-in_err-write_row
returns-in_err-write_row g c =
    front_at_err _ _ _ c.from_residual.result c.from_residual.ensures.0
    (broke_at_line _ _ _ _ c.loop-difference.buffer.items _ _ _ c.loop-difference.invariant.took
    (next_change c.args.style.now c.args.coloured c.args.view _ _ _ c.in-Some.ensures.steps)
    c.in_err-write_row.ensures.front)

pub returns-in_err-write_row-2 : goal.returns-in_err-write_row-2
returns-in_err-write_row-2 g c =
    front_at_err _ _ _ c.from_residual-in_err-write_row-2.result c.from_residual-in_err-write_row-2.ensures.0
    (broke_second c.args.style.now c.args.coloured c.args.view _ _ _ c.in-Some.ensures.steps _ _ _ _ _ c.loop-difference.buffer.items _ c.loop-difference.invariant.took
    c.in_ok-write_row.ensures.front c.in_err-write_row-2.ensures.front)

pub loop-difference-preserved : goal.loop-difference-preserved
loop-difference-preserved g c =
    let rows = next_change c.args.style.now c.args.coloured c.args.view _ _ _ c.in-Some.ensures.steps in
    let took = took_line _ _ _ _ c.loop-difference.buffer.items _ _ _ _ c.loop-difference.invariant.took rows c.in_ok-write_row.ensures.front in
    record {
      took = took_line _ _ _ _ _ _ _ _ _ took refl c.in_ok-write_row-2.ensures.front;
      room = c.in_ok-write_row-2.ensures.room;
    }
