-- The entry stands in the next place, or is found.
use Rattle.std.proofs.Common.{List, subst, sym}
use Rattle.babel_timeline.specs.Places.{Holds}
use Rattle.babel_timeline.specs.declared.cells.Cell.{Cell}
use Rattle.babel_timeline.proofs.PlaceLaws.{present, rising_entries}
use Rattle.babel_timeline.proofs.cells.Cells.find.Goals as goal

pub returns-then-holds-clause-entry : goal.returns-then-holds-clause-entry
returns-then-holds-clause-entry g c =
    let here : Holds c.self.inside.cells.items c.args.subject.now c.saturating_add-next.result =
    subst (λ (cells : List (Cell g.row.S.Denot)). Holds cells c.args.subject.now c.saturating_add-next.result) c.deref.ensures.value (c.holds.ensures.0 c.if-holds.true) in
    sym (present g.met.S.Ord.total g.met.S.Sender.exact c.self.invariant c.self.view_is c.args.subject.now c.saturating_add-next.result
    ((c.self.invariant.held c.args.subject.now c.saturating_add-next.result).1 here) c.index.result.now c.index.ensures)

pub returns-then-holds-clause-rising : goal.returns-then-holds-clause-rising
returns-then-holds-clause-rising g c = rising_entries g.met.S.Ord.total g.met.S.Sender.exact c.self.inside.cells.items c.self.inside.places.entries c.self.invariant.rising
