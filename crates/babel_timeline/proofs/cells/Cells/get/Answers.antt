-- The entry stands in the subject's place.
use Rattle.std.proofs.Common.{arith, sym, ◌∙◌}
use Rattle.babel_timeline.proofs.PlaceLaws.{absent, present, within}
use Rattle.babel_timeline.proofs.cells.Cells.get.Goals as goal

pub returns-in_err-place : goal.returns-in_err-place
returns-in_err-place g c =
    c.from_residual.ensures
    ∙ sym (absent g.met.S.Ord.total g.met.S.Sender.exact c.self.invariant c.self.view_is c.args.subject.now (sym c.in_err-place.ensures))

pub index-requires : goal.index-requires
index-requires g c =
    omega (arith, c.self.inside.cells.ok.0, within g.met.S.Ord.total g.met.S.Sender.exact c.self.invariant c.args.subject.now c.in_ok-place.place (sym c.in_ok-place.ensures))

pub returns : goal.returns
returns g c =
    sym (present g.met.S.Ord.total g.met.S.Sender.exact c.self.invariant c.self.view_is c.args.subject.now c.in_ok-place.place (sym c.in_ok-place.ensures)
    c.index.result.now c.index.ensures)
