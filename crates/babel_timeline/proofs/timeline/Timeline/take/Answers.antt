-- The queue changes with the entry.
use Rattle.std.proofs.Common.{None, Some, ap, refl, subst, sym}
use Rattle.babel_timeline.specs.Kept.{IsKept, queued_at}
use Rattle.babel_timeline.specs.Places.{Entries}
use Rattle.babel_timeline.specs.Rows.{subject_cmp}
use Rattle.babel_timeline.proofs.KeptLaws.{row_of_entry, rows_removed, taken_kept}
use Rattle.babel_timeline.proofs.timeline.Timeline.take.Goals as goal

pub invariant_of-self : goal.invariant_of-self
invariant_of-self g c =
    subst (λ (entries : Entries g.row.S.Denot). IsKept g.S.Ord.cmp c.self.inside.factor c.self.inside.limit entries c.self.inside.queue.expiries) (sym c.in_err-entry.ensures.entries)
    (taken_kept g.S.Ord.cmp g.met.S.Ord.total g.met.S.Sender.exact c.self.inside.factor c.self.inside.limit c.self.inside.cells c.self.inside.queue.expiries c.self.inside.queue.expiries
    c.args.subject.now None c.self.invariant c.in_err-entry.ensures.rising (ap queued_at c.in_err-entry.ensures.entry) (λ other. refl))

pub invariant_of-self-2 : goal.invariant_of-self-2
invariant_of-self-2 g c =
    subst (λ (entries : Entries g.row.S.Denot). IsKept g.S.Ord.cmp c.self.inside.factor c.self.inside.limit entries c.take_out.new.self.expiries) (sym c.in_ok-entry.ensures.entries)
    (taken_kept g.S.Ord.cmp g.met.S.Ord.total g.met.S.Sender.exact c.self.inside.factor c.self.inside.limit c.self.inside.cells c.self.inside.queue.expiries c.take_out.new.self.expiries
    c.args.subject.now c.in_ok-entry.entry.queued c.self.invariant c.in_ok-entry.ensures.rising (ap queued_at c.in_ok-entry.ensures.entry) c.take_out.ensures)

pub returns-in_err-entry-clause-row : goal.returns-in_err-entry-clause-row
returns-in_err-entry-clause-row g c =
    rw (c.from_residual.ensures, ← c.self.view_is)
    (sym (row_of_entry g.S.Ord.cmp c.self.inside.cells c.args.subject.now None (sym c.in_err-entry.ensures.entry)))

pub returns-in_err-entry-clause-rows : goal.returns-in_err-entry-clause-rows
returns-in_err-entry-clause-rows g c =
    rw (← c.self.view_is, c.in_err-entry.ensures.entries, rows_removed (subject_cmp g.S.Ord.cmp) c.args.subject.now c.self.inside.cells) refl

pub returns-clause-row : goal.returns-clause-row
returns-clause-row g c =
    rw (← c.self.view_is)
    (sym (row_of_entry g.S.Ord.cmp c.self.inside.cells c.args.subject.now (Some c.in_ok-entry.entry) (sym c.in_ok-entry.ensures.entry)))

pub returns-clause-rows : goal.returns-clause-rows
returns-clause-rows g c =
    rw (← c.self.view_is, c.in_ok-entry.ensures.entries, rows_removed (subject_cmp g.S.Ord.cmp) c.args.subject.now c.self.inside.cells) refl
