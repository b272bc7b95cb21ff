use Rattle.babel_dump.specs.DiffText.{marked_row}
use Rattle.babel_dump.proofs.DiffLines.{took_row}
use Rattle.babel_dump.proofs.SliceLaws.{broke_within, front_at_err}
use Rattle.babel_dump.proofs.diff_rows.write_row.Goals as goal

pub returns-in_err-make_room-clause-front : goal.returns-in_err-make_room-clause-front
returns-in_err-make_room-clause-front g c =
    front_at_err _ _ _ c.from_residual.result c.from_residual.ensures.0 (broke_within _ _ _ c.in_err-make_room.ensures.front)

pub returns-clause-front : goal.returns-clause-front
returns-clause-front g c =
    took_row _ _ c.args.buffer.now.items _ (marked_row c.args.style.now c.args.coloured c.args.view c.args.side c.args.key c.args.held) _ c.in_ok-make_room.ensures.front c.push_row.ensures.text
