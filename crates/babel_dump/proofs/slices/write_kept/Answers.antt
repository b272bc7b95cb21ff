use Rattle.babel_dump.proofs.SliceLaws.{broke_within, front_at_err}
use Rattle.babel_dump.proofs.slices.write_kept.Goals as goal

pub returns-in_err-make_room-clause-front : goal.returns-in_err-make_room-clause-front
returns-in_err-make_room-clause-front g c =
    front_at_err _ _ _ c.from_residual.result c.from_residual.ensures.0 (broke_within _ _ _ c.in_err-make_room.ensures.front)
