use Rattle.std.proofs.Common.{ap, arith, flat_map}
use Rattle.babel_dump.specs.InFormat.{difference_in}
use Rattle.babel_dump.proofs.SliceLaws.{broke_on, front_at_err, pushed, took_more}
use Rattle.babel_dump.proofs.slices.write_differences.Goals as goal

pub returns-in_err-make_room : goal.returns-in_err-make_room
returns-in_err-make_room g c =
    front_at_err _ _ _ c.from_residual.result c.from_residual.ensures.0
    (broke_on _ _ _ _ c.loop-difference.buffer.items _ c.loop-difference.invariant.took c.in_err-make_room.ensures.front)

pub loop-difference-preserved : goal.loop-difference-preserved
loop-difference-preserved g c =
    let left = c.make_room.new.buffer.items in
    let took = took_more _ _ _ _ c.loop-difference.buffer.items left _ c.loop-difference.invariant.took c.in_ok-make_room.ensures.front in
    record {
      took = pushed _ _ left _ _ _ _ took c.push_difference.ensures.text (ap (flat_map (difference_in c.args.format.now c.args.view)) c.in-Some.ensures.steps);
      room = omega (arith, c.push_difference.ensures.room, c.in_ok-make_room.ensures.room);
    }
