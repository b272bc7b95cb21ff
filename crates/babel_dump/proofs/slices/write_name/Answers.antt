use Rattle.std.proofs.Common.{arith}
use Rattle.babel_dump.specs.NameText.{octet_text}
use Rattle.babel_dump.proofs.SliceLaws.{broke_on, front_at_err, pushed_at, took_more}
use Rattle.babel_dump.proofs.slices.write_name.Goals as goal

pub returns-in_err-make_room-clause-front : goal.returns-in_err-make_room-clause-front
returns-in_err-make_room-clause-front g c =
    rw (← c.escape_of-escape.ensures.text) (front_at_err _ _ _ c.from_residual.result c.from_residual.ensures.0
    (broke_on _ _ _ _ c.loop-octet.buffer.items _ c.loop-octet.invariant.took c.in_err-make_room.ensures.front))

pub loop-octet-preserved : goal.loop-octet-preserved
loop-octet-preserved g c =
    let left = c.make_room.new.buffer.items in
    let took = took_more _ _ _ _ c.loop-octet.buffer.items left _ c.loop-octet.invariant.took c.in_ok-make_room.ensures.front in
    record {
      took = pushed_at (octet_text c.escape_of-escape.result.now) c.args.name.now c.loop-octet.octet-index 0 _ _ left _ took (omega arith) c.push_name_octet.ensures.text;
      room = omega (arith, c.loop-octet.invariant.room, c.make_room.ensures.capacity, c.push_name_octet.ensures.room);
    }
