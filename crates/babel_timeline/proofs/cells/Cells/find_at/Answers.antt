-- The entry stands in the subject's place.
use Rattle.std.proofs.Common.{arith, subst, sym, ◌∙◌}
use Rattle.std.specs.List.Sorted.{IsStrictlySortedBy}
use Rattle.std.specs.Map.{keys_of}
use Rattle.babel_timeline.specs.Places.{Entries}
use Rattle.babel_timeline.specs.Rows.{subject_cmp}
use Rattle.babel_timeline.proofs.PlaceLaws.{absent, present, rising_entries, within}
use Rattle.babel_timeline.proofs.cells.Cells.find_at.Goals as goal

pub returns-in_err-place-clause-entry : goal.returns-in_err-place-clause-entry
returns-in_err-place-clause-entry g c =
    c.from_residual.ensures
    ∙ sym (absent g.met.S.Ord.total g.met.S.Sender.exact c.self.invariant c.self.view_is c.args.subject.now (sym c.in_err-place.ensures))

pub returns-in_err-place-clause-rising : goal.returns-in_err-place-clause-rising
returns-in_err-place-clause-rising g c =
    subst (λ (entries : Entries g.row.S.Denot). IsStrictlySortedBy (subject_cmp g.S.Ord.cmp) (keys_of entries)) c.self.view_is
    (rising_entries g.met.S.Ord.total g.met.S.Sender.exact c.self.inside.cells.items c.self.inside.places.entries c.self.invariant.rising)

pub index-requires : goal.index-requires
index-requires g c =
    omega (arith, c.self.inside.cells.ok.0, within g.met.S.Ord.total g.met.S.Sender.exact c.self.invariant c.args.subject.now c.in_ok-place.place (sym c.in_ok-place.ensures))

pub returns-clause-entry : goal.returns-clause-entry
returns-clause-entry g c =
    sym (present g.met.S.Ord.total g.met.S.Sender.exact c.self.invariant c.self.view_is c.args.subject.now c.in_ok-place.place (sym c.in_ok-place.ensures)
    c.index.result.now c.index.ensures)

pub returns-clause-rising : goal.returns-clause-rising
returns-clause-rising g c = rising_entries g.met.S.Ord.total g.met.S.Sender.exact c.self.inside.cells.items c.self.inside.places.entries c.self.invariant.rising
