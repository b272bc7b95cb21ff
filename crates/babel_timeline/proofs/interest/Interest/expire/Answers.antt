-- What ends goes one by one.
use Rattle.std.proofs.Common.{◌≡◌, ◌≤◌, ◌∙◌, ℕ, [], ◌∷◌, Option, Some, ap, subst, sym}
use Rattle.std.specs.Prelude.{IfNone, IfSome}
use Rattle.babel_timeline.specs.declared.queue.Expiry.{Expiry}
use Rattle.babel_timeline.specs.declared.change.Change.{Change}
use Rattle.babel_timeline.specs.declared.change.ChangeKind.TheVariants as kinds
use Rattle.babel_timeline.specs.Changes.{ending}
use Rattle.babel_timeline.specs.Kept.{expiring}
use Rattle.babel_timeline.specs.Laws.{without}
use Rattle.babel_timeline.specs.Rows.{AllLast, EndsFirst, Held, row_at}
use Rattle.babel_timeline.specs.Telling.{IsTold, TellsEnds}
use Rattle.babel_timeline.proofs.TellingLaws.{ends-begin, ends-end, ends-next, less_ends}
use Rattle.babel_timeline.proofs.interest.Interest.expire.Goals as goal

pub loop-first-smaller : goal.loop-first-smaller
loop-first-smaller g c =
    less_ends g.S.Ord.cmp c.loop-first.timeline.factor c.loop-first.timeline.rows c.end.new.timeline.rows (expiring c.in-Some.first) c.in-Some.first.time
    (subst (λ (o : Option (Expiry g.row.S.Denot)). IfSome o (λ first. EndsFirst g.S.Ord.cmp c.loop-first.timeline.factor c.loop-first.timeline.rows (expiring first) first.time)) c.in-Some.is
    c.in_ok-first.ensures.first)
    (ap (λ (h : Held g.row.S.Denot). h.rows) c.end.ensures.rows ∙ ap (λ (h : Held g.row.S.Denot). without g.S.Ord.cmp (expiring c.in-Some.first) h.rows) c.first_end.ensures.same)

pub loop-first-preserved : goal.loop-first-preserved
loop-first-preserved g c = record {
  bounds = (
    ap (λ (h : Held g.row.S.Denot). h.factor) c.end.ensures.rows ∙ ap (λ (h : Held g.row.S.Denot). h.factor) c.first_end.ensures.same ∙ c.loop-first.invariant.bounds.0,
    ap (λ (h : Held g.row.S.Denot). h.limit) c.end.ensures.rows ∙ ap (λ (h : Held g.row.S.Denot). h.limit) c.first_end.ensures.same ∙ c.loop-first.invariant.bounds.1,
  );
  ends = ends-next g.S.Ord.cmp g.met.S.Ord.total g.met.S.Sender.exact c.args.timeline.now.factor c.args.self.now.asked c.args.until c.in-Some.first.time c.args.timeline.now.rows c.loop-first.timeline.rows c.end.new.timeline.rows (expiring c.in-Some.first)
      c.args.told.now.items c.loop-first.told.items c.end.new.told.items c.loop-first.invariant.ends
      (subst (λ (f : Option ℕ). EndsFirst g.S.Ord.cmp f c.loop-first.timeline.rows (expiring c.in-Some.first) c.in-Some.first.time) c.loop-first.invariant.bounds.0
      (subst (λ (o : Option (Expiry g.row.S.Denot)). IfSome o (λ first. EndsFirst g.S.Ord.cmp c.loop-first.timeline.factor c.loop-first.timeline.rows (expiring first) first.time)) c.in-Some.is
      c.in_ok-first.ensures.first))
      (subst (λ (o : Option (Expiry g.row.S.Denot)). IfSome o (λ first. first.time ≤ c.args.until)) c.in-Some.is c.in_ok-first.ensures.by)
      (ap (λ (h : Held g.row.S.Denot). h.rows) c.end.ensures.rows ∙ ap (λ (h : Held g.row.S.Denot). without g.S.Ord.cmp (expiring c.in-Some.first) h.rows) c.first_end.ensures.same)
      (subst (λ (h : Held g.row.S.Denot). (one : Change g.row.S.Denot)
      → Some one ≡ ending kinds.Expired c.in-Some.first.time (expiring c.in-Some.first) (row_at g.S.Ord.cmp h.rows (expiring c.in-Some.first))
      → IsTold g.S.Ord.cmp c.args.self.now.asked (one ∷ []) h.rows c.end.new.timeline.rows c.loop-first.told.items c.end.new.told.items) c.first_end.ensures.same c.in_ok-end.ensures.told);
}

pub returns-then-is_quiet-clause-ok : goal.returns-then-is_quiet-clause-ok
returns-then-is_quiet-clause-ok g c =
    ends-end g.S.Ord.cmp g.met.S.Ord.total g.met.S.Sender.exact c.args.timeline.now.factor c.args.self.now.asked c.args.until c.args.timeline.now.rows c.args.timeline.now.rows c.args.told.now.items c.args.told.now.items (c.is_quiet.ensures c.if-is_quiet.true)
    (ends-begin g.S.Ord.cmp g.met.S.Ord.total g.met.S.Sender.exact c.args.timeline.now.factor c.args.self.now.asked c.args.until c.args.timeline.now.rows c.args.told.now.items)

pub returns-clause-last : goal.returns-clause-last
returns-clause-last g c =
    subst (λ (f : Option ℕ). AllLast g.S.Ord.cmp f c.args.until c.first_end.new.self.rows) c.loop-first.invariant.bounds.0
    (subst (λ (h : Held g.row.S.Denot). AllLast g.S.Ord.cmp c.loop-first.timeline.factor c.args.until h.rows) (sym c.first_end.ensures.same)
    (subst (λ (o : Option (Expiry g.row.S.Denot)). IfNone o (AllLast g.S.Ord.cmp c.loop-first.timeline.factor c.args.until c.loop-first.timeline.rows)) c.in_default.is c.in_ok-first.ensures.none))

pub returns-clause-ok : goal.returns-clause-ok
returns-clause-ok g c =
    subst (λ (h : Held g.row.S.Denot). TellsEnds g.S.Ord.cmp c.args.timeline.now.factor c.args.self.now.asked c.args.until c.args.timeline.now.rows h.rows c.args.told.now.items c.loop-first.told.items)
    (sym c.first_end.ensures.same)
    (ends-end g.S.Ord.cmp g.met.S.Ord.total g.met.S.Sender.exact c.args.timeline.now.factor c.args.self.now.asked c.args.until c.args.timeline.now.rows c.loop-first.timeline.rows c.args.told.now.items c.loop-first.told.items
    (subst (λ (f : Option ℕ). AllLast g.S.Ord.cmp f c.args.until c.loop-first.timeline.rows) c.loop-first.invariant.bounds.0
    (subst (λ (o : Option (Expiry g.row.S.Denot)). IfNone o (AllLast g.S.Ord.cmp c.loop-first.timeline.factor c.args.until c.loop-first.timeline.rows)) c.in_default.is c.in_ok-first.ensures.none))
    c.loop-first.invariant.ends)
