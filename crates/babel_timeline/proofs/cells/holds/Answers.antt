-- The cell at the place.
use Rattle.std.proofs.Common.{refl}
use Rattle.std.proofs.lemmas.Option.{slice_get_read}
use Rattle.babel_timeline.proofs.PlaceLaws.{holds_at, holds_free}
use Rattle.babel_timeline.proofs.cells.holds.Goals as goal

pub returns-then-cell : goal.returns-then-cell
returns-then-cell g c =
    let look = c.in-Some.ensures.lookup in
    holds_at c.args.cells.now c.args.subject.now c.args.place c.in-Some.cell.now (slice_get_read _ _ _ _ refl look.3.0 look.1) c.if-cell.true c.are_one.result c.are_one.ensures

pub returns-else-cell : goal.returns-else-cell
returns-else-cell g c =
    let look = c.in-Some.ensures.lookup in
    holds_free c.args.cells.now c.args.subject.now c.args.place c.in-Some.cell.now (slice_get_read _ _ _ _ refl look.3.0 look.1) c.if-cell.false
