-- The entry stands in a place that was free.
use Rattle.std.proofs.Common.{ap, arith, ◌∙◌}
use Rattle.std.proofs.lemmas.Option.{slice_get_within}
use Rattle.std.specs.BTreeMap.{insert_entry}
use Rattle.babel_timeline.specs.Places.{Entries}
use Rattle.babel_timeline.specs.Rows.{subject_cmp}
use Rattle.babel_timeline.proofs.PlaceLaws.{added_entries, added_placed, grown_entries, grown_placed, has_none, on_err}
use Rattle.babel_timeline.proofs.cells.Cells.add.Goals as goal

pub invariant_of-self : goal.invariant_of-self
invariant_of-self g c = grown_placed g.met.S.Ord.total g.met.S.Sender.exact c.self.invariant c.in_err-place.ensures.grown

pub returns-in_err-place-clause-err : goal.returns-in_err-place-clause-err
returns-in_err-place-clause-err g c =
    on_err c.from_residual.result (grown_entries g.met.S.Ord.total g.met.S.Sender.exact c.self.invariant c.in_err-place.ensures.grown ∙ c.self.view_is)

pub index_mut-requires : goal.index_mut-requires
index_mut-requires g c =
    let place = c.in_ok-place.ensures.place in
    omega (arith, c.free_place.new.cells.ok.0, slice_get_within c.free_place.new.cells.items c.in_ok-place.place place.cell place.at)

pub invariant_of-self-in-Ok : goal.invariant_of-self-in-Ok
invariant_of-self-in-Ok g c =
    rw c.in-Ok.ensures.entries (added_placed g.met.S.Ord.total g.met.S.Sender.exact
    (grown_placed g.met.S.Ord.total g.met.S.Sender.exact c.self.invariant c.in_ok-place.ensures.grown) c.args.subject.now c.in_ok-place.place
    c.in_ok-place.ensures.place (has_none g.met.S.Ord.total g.met.S.Sender.exact c.self.invariant c.self.view_is c.args.subject.now c.requires) c.args.entry.now)

pub invariant_of-self-in-Err : goal.invariant_of-self-in-Err
invariant_of-self-in-Err g c =
    rw c.in-Err.ensures.err (grown_placed g.met.S.Ord.total g.met.S.Sender.exact c.self.invariant c.in_ok-place.ensures.grown)

pub returns-in-Ok-clause-ok : goal.returns-in-Ok-clause-ok
returns-in-Ok-clause-ok g c =
    rw c.in-Ok.ensures.entries (added_entries g.met.S.Ord.total g.met.S.Sender.exact
    (grown_placed g.met.S.Ord.total g.met.S.Sender.exact c.self.invariant c.in_ok-place.ensures.grown) c.args.subject.now c.in_ok-place.place
    c.in_ok-place.ensures.place (has_none g.met.S.Ord.total g.met.S.Sender.exact c.self.invariant c.self.view_is c.args.subject.now c.requires) c.args.entry.now
    ∙ ap (λ (entries : Entries g.row.S.Denot). insert_entry (subject_cmp g.S.Ord.cmp) entries c.args.subject.now c.args.entry.now)
    (grown_entries g.met.S.Ord.total g.met.S.Sender.exact c.self.invariant c.in_ok-place.ensures.grown ∙ c.self.view_is))

pub returns-in-Err-clause-err : goal.returns-in-Err-clause-err
returns-in-Err-clause-err g c =
    rw c.in-Err.ensures.err (grown_entries g.met.S.Ord.total g.met.S.Sender.exact c.self.invariant c.in_ok-place.ensures.grown ∙ c.self.view_is)
