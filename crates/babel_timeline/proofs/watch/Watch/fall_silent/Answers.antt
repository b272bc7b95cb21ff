-- The row that ends first goes, and its sender is silent.
use Rattle.std.proofs.Common.{◌<◌, length, ◌∙◌, Option, ap, refl, subst, sym}
use Rattle.std.specs.Prelude.{IfNone, IfSome}
use Rattle.std.specs.BTreeMap.{is_at}
use Rattle.std.specs.Map.{remove_entry}
use Rattle.babel_timeline.specs.declared.queue.Expiry.{Expiry}
use Rattle.babel_timeline.specs.declared.subject.Subject.{Subject}
use Rattle.babel_timeline.specs.declared.watch.Silence.{Silence}
use Rattle.babel_timeline.specs.Kept.{expiring}
use Rattle.babel_timeline.specs.Rows.{AllLast, EndsFirst, Held, row_at, subject_cmp}
use Rattle.babel_timeline.specs.Silence.{FallsSilent, NoneFallsSilent, Watching}
use Rattle.babel_timeline.proofs.TellingLaws.{less_ends}
use Rattle.babel_timeline.proofs.WatchLaws.{first_falls, first_kept, none_falls}
use Rattle.babel_timeline.proofs.watch.Watch.fall_silent.Goals as goal

pub returns-in_default-clause-none : goal.returns-in_default-clause-none
returns-in_default-clause-none g c =
    subst (λ (w : Watching g.row.S.Denot). NoneFallsSilent g.S.Ord.cmp c.args.until w) c.self.view_is
    (none_falls g.S.Ord.cmp g.met.S.Ord.total g.met.S.Sender.exact c.args.until c.self.inside.hellos c.self.inside.silent c.self.invariant
    (subst (λ (o : Option (Expiry g.row.S.Denot)). IfNone o (AllLast g.S.Ord.cmp c.self.inside.hellos.factor c.args.until c.self.inside.hellos.rows)) c.in_default.is c.in_ok-first.ensures.none))

pub invariant_of-self-2 : goal.invariant_of-self-2
invariant_of-self-2 g c =
    let old : Held g.row.S.Denot = c.self.inside.hellos in
    let it : Subject g.row.S.Denot = c.subject-subject.result in
    first_kept g.S.Ord.cmp g.met.S.Ord.total g.met.S.Sender.exact old c.take.new.self it c.in-Some.first.time c.self.invariant
    (subst (λ (s : Subject g.row.S.Denot). EndsFirst g.S.Ord.cmp old.factor old.rows s c.in-Some.first.time) (sym c.subject-subject.ensures)
    (subst (λ (o : Option (Expiry g.row.S.Denot)). IfSome o (λ first. EndsFirst g.S.Ord.cmp old.factor old.rows (expiring first) first.time)) c.in-Some.is c.in_ok-first.ensures.first))
    (c.take.ensures.rows ∙ ap (λ (h : Held g.row.S.Denot). record h { rows = remove_entry (is_at (subject_cmp g.S.Ord.cmp it)) h.rows }) c.first_end.ensures.same)

pub returns-clause-first : goal.returns-clause-first
returns-clause-first g c =
    let old : Held g.row.S.Denot = c.self.inside.hellos in
    let it : Subject g.row.S.Denot = c.subject-subject.result in
    let new : Watching g.row.S.Denot = record { rows = c.take.new.self.rows; silent = c.insert.new.self } in
    let silence : Silence g.row.S.Denot = record { time = c.in-Some.first.time; sender = it.sender; since = c.time.result } in
    subst (λ (w : Watching g.row.S.Denot). FallsSilent g.S.Ord.cmp silence w new) c.self.view_is
    (first_falls g.S.Ord.cmp g.met.S.Ord.total g.met.S.Sender.exact old c.take.new.self c.self.inside.silent c.insert.new.self silence it c.unwrap.result c.self.invariant refl
    (subst (λ (s : Subject g.row.S.Denot). EndsFirst g.S.Ord.cmp old.factor old.rows s c.in-Some.first.time) (sym c.subject-subject.ensures)
    (subst (λ (o : Option (Expiry g.row.S.Denot)). IfSome o (λ first. EndsFirst g.S.Ord.cmp old.factor old.rows (expiring first) first.time)) c.in-Some.is c.in_ok-first.ensures.first))
    (ap (λ (h : Held g.row.S.Denot). row_at g.S.Ord.cmp h.rows it) (sym c.first_end.ensures.same) ∙ sym c.take.ensures.row ∙ c.unwrap.ensures)
    c.time.ensures.value
    (c.take.ensures.rows ∙ ap (λ (h : Held g.row.S.Denot). record h { rows = remove_entry (is_at (subject_cmp g.S.Ord.cmp it)) h.rows }) c.first_end.ensures.same)
    c.in_ok-insert.ensures.updates.0)

pub returns-clause-fewer : goal.returns-clause-fewer
returns-clause-fewer g c =
    let old : Held g.row.S.Denot = c.self.inside.hellos in
    let it : Subject g.row.S.Denot = c.subject-subject.result in
    subst (λ (w : Watching g.row.S.Denot). length c.take.new.self.rows < length w.rows) c.self.view_is
    (less_ends g.S.Ord.cmp old.factor old.rows c.take.new.self.rows it c.in-Some.first.time
    (subst (λ (s : Subject g.row.S.Denot). EndsFirst g.S.Ord.cmp old.factor old.rows s c.in-Some.first.time) (sym c.subject-subject.ensures)
    (subst (λ (o : Option (Expiry g.row.S.Denot)). IfSome o (λ first. EndsFirst g.S.Ord.cmp old.factor old.rows (expiring first) first.time)) c.in-Some.is c.in_ok-first.ensures.first))
    (ap (λ (h : Held g.row.S.Denot). h.rows) c.take.ensures.rows ∙ ap (λ (h : Held g.row.S.Denot). remove_entry (is_at (subject_cmp g.S.Ord.cmp it)) h.rows) c.first_end.ensures.same))
