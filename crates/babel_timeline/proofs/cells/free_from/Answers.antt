-- The cell that is found.
use Rattle.std.proofs.Common.{refl}
use Rattle.std.proofs.lemmas.Option.{slice_get_read}
use Rattle.babel_timeline.proofs.PlaceLaws.{free_at}
use Rattle.babel_timeline.proofs.cells.free_from.Goals as goal

pub returns-then-not-cells-place : goal.returns-then-not-cells-place
returns-then-not-cells-place g c =
    free_at c.args.cells.now c.loop-place.place c.index-cells-place.result (slice_get_read _ _ _ _ refl c.loop-place-test.true c.index-cells-place.is) c.index-cells-place.is c.if-not-cells-place.true
