-- The row of the entry.
use Rattle.std.proofs.Common.{None, Some, sym}
use Rattle.babel_timeline.proofs.KeptLaws.{row_of_entry}
use Rattle.babel_timeline.proofs.timeline.Timeline.row.Goals as goal

pub returns-in_err-entry : goal.returns-in_err-entry
returns-in_err-entry g c =
    rw (c.from_residual.ensures, ← c.self.view_is)
    (sym (row_of_entry g.S.Ord.cmp c.self.inside.cells c.args.subject.now None (sym c.in_err-entry.ensures)))

pub returns : goal.returns
returns g c =
    rw (← c.self.view_is)
    (sym (row_of_entry g.S.Ord.cmp c.self.inside.cells c.args.subject.now (Some c.in_ok-entry.entry) (sym c.in_ok-entry.ensures)))
