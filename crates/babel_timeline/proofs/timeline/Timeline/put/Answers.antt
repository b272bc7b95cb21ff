-- The queue changes with the entry.
use Rattle.std.proofs.Common.{◌≡◌, ◌<◌, ◌∙◌, None, Some, ap, length, refl, subst, sym}
use Rattle.std.specs.BTreeMap.{insert_entry, is_at}
use Rattle.std.specs.List.Sorted.{IsStrictlySortedBy}
use Rattle.std.specs.Map.{keys_of, set_value}
use Rattle.babel_timeline.specs.Kept.{IsKept, entry_of, queued_at}
use Rattle.babel_timeline.specs.Places.{Entries}
use Rattle.babel_timeline.specs.Rows.{Held, row_at, subject_cmp}
use Rattle.babel_timeline.specs.declared.entry.Entry.{Entry}
use Rattle.babel_timeline.proofs.KeptLaws.{added_kept, is_in, put_back, row_of_entry, rows_inserted, same_queued, set_is_insert, set_kept}
use Rattle.babel_timeline.proofs.Subjects.{subject_total}
use Rattle.babel_timeline.proofs.timeline.Timeline.put.Goals as goal

pub invariant_of-self-in-Ok : goal.invariant_of-self-in-Ok
invariant_of-self-in-Ok g c =
    let entry : Entry = record { row = c.args.row.now; queued = c.end-end.result } in
    let none : entry_of g.S.Ord.cmp c.self.inside.cells c.args.subject.now ≡ None = sym c.find.ensures.entry ∙ c.in_default.is in
    let room = subst (λ (h : Held g.row.S.Denot). row_at g.S.Ord.cmp h.rows c.args.subject.now ≡ None → length h.rows < h.limit) (sym c.self.view_is) c.requires.room in
    subst (λ (entries : Entries g.row.S.Denot). IsKept g.S.Ord.cmp c.self.inside.factor c.self.inside.limit entries c.put.new.self.expiries)
    (sym (c.in_ok-add.ensures.ok ∙ ap (λ (entries : Entries g.row.S.Denot). insert_entry (subject_cmp g.S.Ord.cmp) entries c.args.subject.now entry) c.find.ensures.same))
    (added_kept g.S.Ord.cmp g.met.S.Ord.total g.met.S.Sender.exact c.self.inside.factor c.self.inside.limit c.self.inside.cells c.self.inside.queue.expiries c.put.new.self.expiries
    c.args.subject.now entry c.self.invariant (room (row_of_entry g.S.Ord.cmp c.self.inside.cells c.args.subject.now None none)) none c.in-Ok.ensures.ok c.end-end.ensures)

pub invariant_of-self-in-Err : goal.invariant_of-self-in-Err
invariant_of-self-in-Err g c =
    let entry : Entry = record { row = c.args.row.now; queued = c.end-end.result } in
    let none : entry_of g.S.Ord.cmp c.self.inside.cells c.args.subject.now ≡ None = sym c.find.ensures.entry ∙ c.in_default.is in
    let same = put_back g.S.Ord.cmp g.met.S.Ord.total g.met.S.Sender.exact c.self.inside.factor c.self.inside.cells c.find.new.self c.add.new.self c.take.new.self
    c.args.subject.now entry none c.find.ensures.same c.in_ok-add.ensures.ok c.take.ensures.entries in
    subst (λ (entries : Entries g.row.S.Denot). IsKept g.S.Ord.cmp c.self.inside.factor c.self.inside.limit entries c.put.new.self.expiries) (sym same) (record {
      few = c.self.invariant.few;
      queue = same_queued g.S.Ord.cmp g.met.S.Ord.total g.met.S.Sender.exact c.self.inside.factor c.self.inside.cells c.self.inside.queue.expiries c.put.new.self.expiries
          c.self.invariant.queue c.in-Err.ensures.err;
    })

pub returns-in-Err-clause-err : goal.returns-in-Err-clause-err
returns-in-Err-clause-err g c =
    let entry : Entry = record { row = c.args.row.now; queued = c.end-end.result } in
    let none : entry_of g.S.Ord.cmp c.self.inside.cells c.args.subject.now ≡ None = sym c.find.ensures.entry ∙ c.in_default.is in
    rw (
      ← c.self.view_is,
      put_back g.S.Ord.cmp g.met.S.Ord.total g.met.S.Sender.exact c.self.inside.factor c.self.inside.cells c.find.new.self c.add.new.self c.take.new.self
          c.args.subject.now entry none c.find.ensures.same c.in_ok-add.ensures.ok c.take.ensures.entries,
    ) refl

pub returns-in-Ok-clause-row : goal.returns-in-Ok-clause-row
returns-in-Ok-clause-row g c =
    rw (← c.self.view_is) (sym (row_of_entry g.S.Ord.cmp c.self.inside.cells c.args.subject.now None (sym c.find.ensures.entry ∙ c.in_default.is)))

pub returns-in-Ok-clause-ok : goal.returns-in-Ok-clause-ok
returns-in-Ok-clause-ok g c =
    let entry : Entry = record { row = c.args.row.now; queued = c.end-end.result } in
    rw (← c.self.view_is, c.in_ok-add.ensures.ok, c.find.ensures.same, rows_inserted (subject_cmp g.S.Ord.cmp) c.args.subject.now c.self.inside.cells entry) refl

pub move_to-requires : goal.move_to-requires
move_to-requires g c =
    is_in g.S.Ord.cmp g.met.S.Ord.total g.met.S.Sender.exact c.self.inside.cells c.self.inside.queue.expiries c.args.subject.now c.in-Some.before.queued c.self.invariant.queue.queued
    (ap queued_at c.in-Some.ensures.entry)

pub invariant_of-self-in_err-move_to : goal.invariant_of-self-in_err-move_to
invariant_of-self-in_err-move_to g c =
    subst (λ (entries : Entries g.row.S.Denot). IsKept g.S.Ord.cmp c.self.inside.factor c.self.inside.limit entries c.move_to.new.self.expiries) (sym c.find.ensures.same) (record {
      few = c.self.invariant.few;
      queue = same_queued g.S.Ord.cmp g.met.S.Ord.total g.met.S.Sender.exact c.self.inside.factor c.self.inside.cells c.self.inside.queue.expiries c.move_to.new.self.expiries
          c.self.invariant.queue c.in_err-move_to.ensures.err;
    })

pub invariant_of-self-2 : goal.invariant_of-self-2
invariant_of-self-2 g c =
    let after : Entry = record { row = c.args.row.now; queued = c.queued_for-queued.result } in
    subst (λ (entries : Entries g.row.S.Denot). IsKept g.S.Ord.cmp c.self.inside.factor c.self.inside.limit entries c.move_to.new.self.expiries)
    (sym (c.replace.ensures ∙ ap (λ (entries : Entries g.row.S.Denot). set_value (is_at (subject_cmp g.S.Ord.cmp c.args.subject.now)) entries after) c.find.ensures.same))
    (set_kept g.S.Ord.cmp g.met.S.Ord.total g.met.S.Sender.exact c.self.inside.factor c.self.inside.limit c.self.inside.cells c.self.inside.queue.expiries c.move_to.new.self.expiries
    c.args.subject.now c.in-Some.before after c.self.invariant (sym c.in-Some.ensures.entry) c.in_ok-move_to.ensures.ok
    (λ time ends. c.queued_for-queued.ensures time (c.end-end.ensures ∙ ends)))

pub returns-clause-row : goal.returns-clause-row
returns-clause-row g c =
    rw (← c.self.view_is) (sym (row_of_entry g.S.Ord.cmp c.self.inside.cells c.args.subject.now (Some c.in-Some.before) (sym c.in-Some.ensures.entry)))

pub returns-clause-ok : goal.returns-clause-ok
returns-clause-ok g c =
    let after : Entry = record { row = c.args.row.now; queued = c.queued_for-queued.result } in
    rw (
      ← c.self.view_is,
      c.replace.ensures,
      c.find.ensures.same,
      set_is_insert (subject_cmp g.S.Ord.cmp) c.args.subject.now (subject_total g.S.Ord.cmp g.met.S.Ord.total) c.self.inside.cells c.in-Some.before after
          (subst (λ (entries : Entries g.row.S.Denot). IsStrictlySortedBy (subject_cmp g.S.Ord.cmp) (keys_of entries)) c.find.ensures.same c.find.ensures.rising) (sym c.in-Some.ensures.entry),
      rows_inserted (subject_cmp g.S.Ord.cmp) c.args.subject.now c.self.inside.cells after,
    ) refl
