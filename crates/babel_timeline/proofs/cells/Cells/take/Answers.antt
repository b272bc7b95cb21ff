-- The subject's place is free.
use Rattle.std.proofs.Common.{ap, arith, subst, sym, ◌∙◌}
use Rattle.std.specs.List.Sorted.{IsStrictlySortedBy}
use Rattle.std.specs.BTreeMap.{is_at}
use Rattle.std.specs.Map.{keys_of, remove_entry}
use Rattle.babel_timeline.specs.Places.{Entries}
use Rattle.babel_timeline.specs.Rows.{subject_cmp}
use Rattle.babel_timeline.proofs.PlaceLaws.{absent, none_removed, present, rising_entries, taken_entries, taken_placed, within}
use Rattle.babel_timeline.proofs.cells.Cells.take.Goals as goal

pub returns-in_err-place-clause-entry : goal.returns-in_err-place-clause-entry
returns-in_err-place-clause-entry g c =
    c.from_residual.ensures
    ∙ sym (absent g.met.S.Ord.total g.met.S.Sender.exact c.self.invariant c.self.view_is c.args.subject.now (sym c.in_err-place.ensures.value))

pub returns-in_err-place-clause-entries : goal.returns-in_err-place-clause-entries
returns-in_err-place-clause-entries g c =
    rw c.in_err-place.ensures.unchanged (c.self.view_is ∙ sym (none_removed (is_at (subject_cmp g.S.Ord.cmp c.args.subject.now)) c.args.self.now
    (absent g.met.S.Ord.total g.met.S.Sender.exact c.self.invariant c.self.view_is c.args.subject.now (sym c.in_err-place.ensures.value))))

pub index_mut-cell-requires : goal.index_mut-cell-requires
index_mut-cell-requires g c =
    omega (arith, c.self.inside.cells.ok.0, within g.met.S.Ord.total g.met.S.Sender.exact c.self.invariant c.args.subject.now c.in_ok-place.place (sym c.in_ok-place.ensures.value))

pub invariant_of-self-2 : goal.invariant_of-self-2
invariant_of-self-2 g c =
    rw c.in_ok-place.ensures.entries (taken_placed g.met.S.Ord.total g.met.S.Sender.exact c.self.invariant c.args.subject.now
    c.in_ok-place.place (sym c.in_ok-place.ensures.value) c.index_mut-cell.result.now c.index_mut-cell.ensures.value)

pub returns-clause-entry : goal.returns-clause-entry
returns-clause-entry g c =
    sym (present g.met.S.Ord.total g.met.S.Sender.exact c.self.invariant c.self.view_is c.args.subject.now c.in_ok-place.place (sym c.in_ok-place.ensures.value)
    c.index_mut-cell.result.now c.index_mut-cell.ensures.value)

pub returns-clause-entries : goal.returns-clause-entries
returns-clause-entries g c =
    rw c.in_ok-place.ensures.entries (taken_entries g.met.S.Ord.total g.met.S.Sender.exact c.self.invariant c.args.subject.now
    c.in_ok-place.place (sym c.in_ok-place.ensures.value) c.index_mut-cell.result.now c.index_mut-cell.ensures.value
    ∙ ap (remove_entry (is_at (subject_cmp g.S.Ord.cmp c.args.subject.now))) c.self.view_is)

pub returns-in_err-place-clause-rising : goal.returns-in_err-place-clause-rising
returns-in_err-place-clause-rising g c =
    subst (λ (entries : Entries g.row.S.Denot). IsStrictlySortedBy (subject_cmp g.S.Ord.cmp) (keys_of entries)) c.self.view_is
    (rising_entries g.met.S.Ord.total g.met.S.Sender.exact c.self.inside.cells.items c.self.inside.places.entries c.self.invariant.rising)

pub returns-clause-rising : goal.returns-clause-rising
returns-clause-rising g c =
    subst (λ (entries : Entries g.row.S.Denot). IsStrictlySortedBy (subject_cmp g.S.Ord.cmp) (keys_of entries)) c.self.view_is
    (rising_entries g.met.S.Ord.total g.met.S.Sender.exact c.self.inside.cells.items c.self.inside.places.entries c.self.invariant.rising)
