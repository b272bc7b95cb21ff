-- The rows of a sender go one by one.
use Rattle.std.proofs.Common.{◌≡◌, refl, ap, subst, sym, ◌∙◌, ℕ, [], ◌∷◌, Option}
use Rattle.std.specs.Prelude.{IfNone}
use Rattle.babel_tlv.specs.declared.event.Event.TheVariants as events
use Rattle.babel_timeline.specs.declared.change.Change.{Change}
use Rattle.babel_timeline.specs.declared.change.ChangeKind.TheVariants as kinds
use Rattle.babel_timeline.specs.Accounts.{said}
use Rattle.babel_timeline.specs.Changes.{ending}
use Rattle.babel_timeline.specs.Rows.{HasNone, Held, Rows, row_at}
use Rattle.babel_timeline.specs.Taking.{Takes}
use Rattle.babel_timeline.proofs.TakingLaws.{leaves-begin, leaves-end, leaves-next}
use Rattle.babel_timeline.proofs.TellingLaws.{less_goes}
use Rattle.babel_timeline.proofs.interest.Interest.retract_all.Goals as goal

pub loop-change-init : goal.loop-change-init
loop-change-init g c = record {
  bounds = (refl, refl);
  leaves = leaves-begin g.S.Ord.cmp g.met.S.Ord.total g.met.S.Sender.exact c.args.timeline.now.factor c.args.self.now.asked c.args.sender c.args.when c.args.timeline.now.rows c.args.told.now.items c.requires;
}

pub loop-change-smaller : goal.loop-change-smaller
loop-change-smaller g c =
    less_goes g.S.Ord.cmp c.args.sender c.loop-change.timeline.rows c.retract_next.new.self.rows c.in-Some.change.subject c.in-Some.ensures.first (ap (λ (h : Held g.row.S.Denot). h.rows) c.in-Some.ensures.rows)

pub loop-change-preserved : goal.loop-change-preserved
loop-change-preserved g c = record {
  bounds = (
    ap (λ (h : Held g.row.S.Denot). h.factor) c.in-Some.ensures.rows ∙ c.loop-change.invariant.bounds.0,
    ap (λ (h : Held g.row.S.Denot). h.limit) c.in-Some.ensures.rows ∙ c.loop-change.invariant.bounds.1,
  );
  leaves = leaves-next g.S.Ord.cmp g.met.S.Ord.total g.met.S.Sender.exact c.args.timeline.now.factor c.args.self.now.asked c.args.sender c.args.when c.args.timeline.now.rows c.loop-change.timeline.rows c.retract_next.new.self.rows c.in-Some.change.subject c.in-Some.change
      c.args.told.now.items c.loop-change.told.items c.tell.new.told.items c.loop-change.invariant.leaves c.in-Some.ensures.first (ap (λ (h : Held g.row.S.Denot). h.rows) c.in-Some.ensures.rows)
      (c.in-Some.ensures.told ∙ ap (λ (n : ℕ). ending kinds.Retracted n c.in-Some.change.subject (row_at g.S.Ord.cmp c.loop-change.timeline.rows c.in-Some.change.subject)) c.time.ensures.value)
      c.in_ok-tell.ensures;
}

pub returns-clause-ok : goal.returns-clause-ok
returns-clause-ok g c =
    let none = subst (λ (o : Option (Change g.row.S.Denot)). IfNone o (HasNone g.S.Ord.cmp c.args.sender c.loop-change.timeline.rows)) c.in_default.is c.retract_next.ensures.none in
    let same = subst (λ (o : Option (Change g.row.S.Denot)). IfNone o (c.retract_next.new.self ≡ c.loop-change.timeline)) c.in_default.is c.retract_next.ensures.same in
    subst (λ (r : Rows g.row.S.Denot). Takes g.S.Ord.cmp c.args.timeline.now.factor c.args.self.now.asked c.args.sender (said c.args.sender c.args.when events.RetractAll ∷ []) c.args.when.time c.args.timeline.now.rows r
    c.args.told.now.items c.loop-change.told.items) (sym (ap (λ (h : Held g.row.S.Denot). h.rows) same))
    (leaves-end g.S.Ord.cmp g.met.S.Ord.total g.met.S.Sender.exact c.args.timeline.now.factor c.args.self.now.asked c.args.sender c.args.when c.args.timeline.now.rows c.loop-change.timeline.rows c.args.told.now.items c.loop-change.told.items none c.loop-change.invariant.leaves)
