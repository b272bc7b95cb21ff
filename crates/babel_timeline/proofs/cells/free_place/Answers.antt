-- The last cell is a new one, which is free.
use Rattle.std.proofs.Common.{arith}
use Rattle.babel_timeline.proofs.PlaceLaws.{pushed, pushed_free}
use Rattle.babel_timeline.proofs.cells.free_place.Goals as goal

pub returns-clause-place : goal.returns-clause-place
returns-clause-place g c =
    pushed_free c.args.cells.now.items c.push.new.self.items c.args.free.now c.len-place.result c.in_ok-push.ensures.items (omega (arith, c.len-place.ensures, c.args.cells.now.ok.0)) c.requires

pub returns-clause-grown : goal.returns-clause-grown
returns-clause-grown g c = pushed c.args.cells.now.items c.push.new.self.items c.args.free.now c.in_ok-push.ensures.items c.requires
