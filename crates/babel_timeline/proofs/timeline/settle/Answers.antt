-- What is first in the queue ends then, or is queued for its end.
use Rattle.std.proofs.Common.{◌≡◌, ◌∙◌, ◌<◌, ℕ, Some, Option, ap, refl, subst, sym}
use Rattle.std.specs.Prelude.{IfNone, nat_eq, sum_by}
use Rattle.std.specs.BTreeMap.{is_at}
use Rattle.std.specs.Map.{set_value, values_of}
use Rattle.std.specs.Option.{option_eq}
use Rattle.babel_timeline.specs.Kept.{AreQueued, NoneBy, entry_of, expiring, queued_at}
use Rattle.babel_timeline.specs.Places.{Entries, rows_of}
use Rattle.babel_timeline.specs.Rows.{EndsFirst, subject_cmp}
use Rattle.babel_timeline.specs.declared.entry.Entry.{Entry}
use Rattle.babel_timeline.specs.declared.queue.Expiry.{Expiry}
use Rattle.babel_timeline.specs.declared.subject.Subject.{Subject}
use Rattle.babel_timeline.proofs.KeptLaws.{ends_in_time, eq_times, first_ends, first_has, has_some, is_in, less_unsettled, queued_on, quiet_ends, rows_same, same_queued, set_queued, unsettled}
use Rattle.babel_timeline.proofs.timeline.settle.Goals as goal

pub unwrap-entry-requires : goal.unwrap-entry-requires
unwrap-entry-requires g c =
    has_some c.find_at.result c.in-Some.first.time
    (first_has g.S.Ord.cmp g.met.S.Ord.total g.met.S.Sender.exact c.loop-first.cells c.first_by.new.self.expiries c.in-Some.first c.subject-subject.result c.find_at.result (queued_on c.first_by.ensures.same c.loop-first.invariant.queued).queued
    c.in-Some.ensures.some c.subject-subject.ensures c.find_at.ensures.entry)

pub returns-then-eq-clause-first : goal.returns-then-eq-clause-first
returns-then-eq-clause-first g c =
    let queued : queued_at c.find_at.result ≡ Some c.in-Some.first.time =
    first_has g.S.Ord.cmp g.met.S.Ord.total g.met.S.Sender.exact c.loop-first.cells c.first_by.new.self.expiries c.in-Some.first c.subject-subject.result c.find_at.result (queued_on c.first_by.ensures.same c.loop-first.invariant.queued).queued
    c.in-Some.ensures.some c.subject-subject.ensures c.find_at.ensures.entry in
    subst (λ (entries : Entries g.row.S.Denot). EndsFirst g.S.Ord.cmp c.args.factor (rows_of entries) (expiring c.in-Some.first) c.in-Some.first.time) (sym c.find_at.ensures.same)
    (first_ends g.S.Ord.cmp g.met.S.Ord.total g.met.S.Sender.exact c.args.factor c.loop-first.cells c.first_by.new.self.expiries c.in-Some.first c.unwrap-entry.result (queued_on c.first_by.ensures.same c.loop-first.invariant.queued)
    (sym (c.find_at.ensures.entry ∙ ap (λ (s : Subject g.row.S.Denot). entry_of g.S.Ord.cmp c.loop-first.cells s) c.subject-subject.ensures) ∙ c.unwrap-entry.ensures)
    (sym c.end-end.ensures ∙ sym (eq_times _ _ (sym c.eq.ensures ∙ c.if-eq.true)) ∙ ap queued_at (sym c.unwrap-entry.ensures) ∙ queued) c.in-Some.ensures.least)

pub move_to-requires : goal.move_to-requires
move_to-requires g c =
    is_in g.S.Ord.cmp g.met.S.Ord.total g.met.S.Sender.exact c.loop-first.cells c.first_by.new.self.expiries c.subject-subject.result c.unwrap-entry.result.queued (queued_on c.first_by.ensures.same c.loop-first.invariant.queued).queued
    (ap queued_at (sym c.unwrap-entry.ensures ∙ c.find_at.ensures.entry))

pub returns-in_err-move_to-clause-queued : goal.returns-in_err-move_to-clause-queued
returns-in_err-move_to-clause-queued g c =
    subst (λ (entries : Entries g.row.S.Denot). AreQueued g.S.Ord.cmp c.args.factor entries c.move_to.new.self.expiries) (sym c.find_at.ensures.same)
    (same_queued g.S.Ord.cmp g.met.S.Ord.total g.met.S.Sender.exact c.args.factor c.loop-first.cells c.first_by.new.self.expiries c.move_to.new.self.expiries (queued_on c.first_by.ensures.same c.loop-first.invariant.queued)
    c.in_err-move_to.ensures.err)

pub loop-first-smaller : goal.loop-first-smaller
loop-first-smaller g c =
    let after : Entry = record { row = c.unwrap-entry.result.row; queued = c.end-end.result } in
    subst (λ (entries : Entries g.row.S.Denot). sum_by (unsettled c.args.factor) (values_of entries) < sum_by (unsettled c.args.factor) (values_of c.loop-first.cells))
    (sym (c.replace.ensures ∙ ap (λ (entries : Entries g.row.S.Denot). set_value (is_at (subject_cmp g.S.Ord.cmp c.subject-subject.result)) entries after) c.find_at.ensures.same))
    (less_unsettled g.S.Ord.cmp g.met.S.Ord.total g.met.S.Sender.exact c.args.factor c.loop-first.cells c.subject-subject.result c.unwrap-entry.result after
    (sym c.find_at.ensures.entry ∙ c.unwrap-entry.ensures)
    (sym (ap (λ (t : Option ℕ). option_eq nat_eq c.unwrap-entry.result.queued t) c.end-end.ensures) ∙ sym c.eq.ensures ∙ c.if-eq.false) c.end-end.ensures)

pub loop-first-preserved : goal.loop-first-preserved
loop-first-preserved g c =
    let got : entry_of g.S.Ord.cmp c.loop-first.cells c.subject-subject.result ≡ Some c.unwrap-entry.result = sym c.find_at.ensures.entry ∙ c.unwrap-entry.ensures in
    let after : Entry = record { row = c.unwrap-entry.result.row; queued = c.end-end.result } in
    let replaced = c.replace.ensures ∙ ap (λ (entries : Entries g.row.S.Denot). set_value (is_at (subject_cmp g.S.Ord.cmp c.subject-subject.result)) entries after) c.find_at.ensures.same in
    record {
      queued = subst (λ (entries : Entries g.row.S.Denot). AreQueued g.S.Ord.cmp c.args.factor entries c.move_to.new.self.expiries) (sym replaced)
          (set_queued g.S.Ord.cmp g.met.S.Ord.total g.met.S.Sender.exact c.args.factor c.loop-first.cells c.first_by.new.self.expiries c.move_to.new.self.expiries c.subject-subject.result
          c.unwrap-entry.result after (queued_on c.first_by.ensures.same c.loop-first.invariant.queued) got c.in_ok-move_to.ensures.ok (ends_in_time c.args.factor after c.end-end.ensures));
      same = ap (λ (entries : Entries g.row.S.Denot). rows_of entries) replaced
          ∙ rows_same (subject_cmp g.S.Ord.cmp) c.subject-subject.result c.loop-first.cells c.unwrap-entry.result after got refl ∙ c.loop-first.invariant.same;
    }

pub returns-clause-none : goal.returns-clause-none
returns-clause-none g c =
    quiet_ends g.S.Ord.cmp g.met.S.Ord.total g.met.S.Sender.exact c.args.factor c.args.until c.loop-first.cells c.first_by.new.self.expiries (queued_on c.first_by.ensures.same c.loop-first.invariant.queued)
    (subst (λ (o : Option (Expiry g.row.S.Denot)). IfNone o (NoneBy g.S.Ord.cmp c.args.until c.first_by.new.self.expiries)) c.in_default.is c.first_by.ensures.none)
