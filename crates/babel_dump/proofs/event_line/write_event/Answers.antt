use Rattle.babel_dump.proofs.EventLines.{event_parts}
use Rattle.babel_dump.proofs.SenderLines.{broke_before_end, broke_in_middle, took_whole}
use Rattle.babel_dump.proofs.SliceLaws.{broke_within, front_at_err}
use Rattle.babel_dump.proofs.event_line.write_event.Goals as goal

pub returns-in_err-make_room-clause-front : goal.returns-in_err-make_room-clause-front
returns-in_err-make_room-clause-front g c =
    front_at_err _ _ _ c.from_residual.result c.from_residual.ensures.0 (broke_within _ _ _ c.in_err-make_room.ensures.front)

pub returns-in_err-write_name-clause-front : goal.returns-in_err-write_name-clause-front
returns-in_err-write_name-clause-front g c =
    front_at_err _ _ _ c.from_residual-in_err-write_name.result c.from_residual-in_err-write_name.ensures.0
    (broke_in_middle _ _ _ _ _ _ _ _ (event_parts c.args.format.now c.args.view c.args.pair c.args.name.now c.args.told.now) _ _ c.in_ok-make_room.ensures.front
    c.push_to_name.ensures.text c.in_err-write_name.ensures.front)

pub returns-in_err-make_room-2-clause-front : goal.returns-in_err-make_room-2-clause-front
returns-in_err-make_room-2-clause-front g c =
    front_at_err _ _ _ c.from_residual-in_err-make_room-2.result c.from_residual-in_err-make_room-2.ensures.0
    (broke_before_end _ _ _ _ _ _ _ _ (event_parts c.args.format.now c.args.view c.args.pair c.args.name.now c.args.told.now) _ _ c.in_ok-make_room.ensures.front
    c.push_to_name.ensures.text _ c.in_ok-write_name.ensures.front _ c.in_err-make_room-2.ensures.front)

pub returns-clause-front : goal.returns-clause-front
returns-clause-front g c =
    took_whole _ _ _ _ _ _ _ _ (event_parts c.args.format.now c.args.view c.args.pair c.args.name.now c.args.told.now) _ _ c.in_ok-make_room.ensures.front
    c.push_to_name.ensures.text _ c.in_ok-write_name.ensures.front _ _ _ c.in_ok-make_room-2.ensures.front c.push_after_name.ensures.text
