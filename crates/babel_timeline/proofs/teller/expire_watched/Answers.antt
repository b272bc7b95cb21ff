-- Who falls silent is told among what ends.
use Rattle.std.proofs.Common.{◌≡◌, ◌≤◌, ◌∙◌, ℕ, Option, None, refl, subst}
use Rattle.std.specs.Prelude.{IfNone, IfSome}
use Rattle.babel_timeline.specs.declared.watch.Silence.{Silence}
use Rattle.babel_timeline.specs.Rows.{AllLast}
use Rattle.babel_timeline.specs.Telling.{AskedFor, IsTold, TellsEnds, of_rows}
use Rattle.babel_timeline.proofs.CountTold.{counts_changes, so_far_more, so_far_none}
use Rattle.babel_timeline.proofs.SilenceTold.{ends_all, ends_of_rows}
use Rattle.babel_timeline.proofs.TakingLaws.{on_ok_then}
use Rattle.babel_timeline.specs.Silence.{FallsSilent, NoneFallsSilent}
use Rattle.babel_timeline.proofs.WatchTold.{some_all, some_more, some_none}
use Rattle.babel_timeline.proofs.teller.expire_watched.Goals as goal

pub loop-silence-init : goal.loop-silence-init
loop-silence-init g c = record {
  bounds = (refl, refl);
  ends = so_far_none g.S.Ord.cmp c.args.timeline.now.factor c.args.timeline.now.rows g.met.S.Ord.total g.met.S.Sender.exact c.args.until c.args.told.now.items c.args.watch.now;
  silences = some_none g.S.Ord.cmp g.met.S.Ord.total g.met.S.Sender.exact c.args.until c.args.told.now.items c.args.watch.now;
}

pub loop-silence-preserved : goal.loop-silence-preserved
loop-silence-preserved g c =
    let factor : Option ℕ = c.args.timeline.now.factor in
    let silence : Silence g.row.S.Denot = c.in-Some.silence in
    let ends : TellsEnds g.S.Ord.cmp factor None silence.time c.loop-silence.timeline.rows c.expire.new.timeline.rows c.loop-silence.told.items c.expire.new.told.items =
    subst (λ (f : Option ℕ). TellsEnds g.S.Ord.cmp f None silence.time c.loop-silence.timeline.rows c.expire.new.timeline.rows c.loop-silence.told.items c.expire.new.told.items) c.loop-silence.invariant.bounds.0
    (subst (λ (q : AskedFor). TellsEnds g.S.Ord.cmp c.loop-silence.timeline.factor q silence.time c.loop-silence.timeline.rows c.expire.new.timeline.rows c.loop-silence.told.items c.expire.new.told.items) c.requires
    c.in_ok-expire.ensures.ok) in
    let by : silence.time ≤ c.args.until = subst (λ (o : Option (Silence g.row.S.Denot)). IfSome o (λ s. s.time ≤ c.args.until)) c.in-Some.is c.in_ok-silence.ensures.by in
    let falls : FallsSilent g.S.Ord.cmp silence c.loop-silence.watch c.fall_silent.new.self =
    subst (λ (o : Option (Silence g.row.S.Denot)). IfSome o (λ s. FallsSilent g.S.Ord.cmp s c.loop-silence.watch c.fall_silent.new.self)) c.in-Some.is c.in_ok-silence.ensures.first in
    record {
      bounds = (c.expire.ensures.bounds.0 ∙ c.loop-silence.invariant.bounds.0, c.expire.ensures.bounds.1 ∙ c.loop-silence.invariant.bounds.1);
      ends = so_far_more g.S.Ord.cmp factor c.args.timeline.now.rows g.met.S.Ord.total g.met.S.Sender.exact c.args.until c.loop-silence.timeline.rows c.expire.new.timeline.rows
          c.args.told.now.items c.loop-silence.told.items c.expire.new.told.items c.add_silence.new.told.items c.loop-silence.watch c.fall_silent.new.self silence c.count_of.result c.loop-silence.invariant.ends
          by falls ends c.count_of.ensures c.in_ok-add_silence.ensures;
      silences = some_more g.S.Ord.cmp g.met.S.Ord.total g.met.S.Sender.exact c.args.until c.args.told.now.items c.loop-silence.told.items c.expire.new.told.items c.add_silence.new.told.items
          c.args.watch.now c.loop-silence.watch c.fall_silent.new.self ends.changes silence c.count_of.result c.loop-silence.invariant.silences
          by falls ends.told c.in_ok-add_silence.ensures;
    }

pub returns-clause-ok : goal.returns-clause-ok
returns-clause-ok g c =
    let factor : Option ℕ = c.args.timeline.now.factor in
    on_ok_then c.expire-2.result c.expire-2.ensures.ok (λ told.
    ends_all g.S.Ord.cmp g.met.S.Ord.total g.met.S.Sender.exact factor None c.args.until c.args.timeline.now.rows c.loop-silence.timeline.rows c.expire-2.new.timeline.rows
    (of_rows None c.args.told.now.items) (of_rows None c.loop-silence.told.items) (of_rows None c.expire-2.new.told.items)
    (c.loop-silence.invariant.ends.ends c.args.until c.loop-silence.invariant.ends.by)
    (ends_of_rows g.S.Ord.cmp factor None c.args.until c.loop-silence.timeline.rows c.expire-2.new.timeline.rows c.loop-silence.told.items c.expire-2.new.told.items
    (subst (λ (f : Option ℕ). TellsEnds g.S.Ord.cmp f None c.args.until c.loop-silence.timeline.rows c.expire-2.new.timeline.rows c.loop-silence.told.items c.expire-2.new.told.items) c.loop-silence.invariant.bounds.0
    (subst (λ (q : AskedFor). TellsEnds g.S.Ord.cmp c.loop-silence.timeline.factor q c.args.until c.loop-silence.timeline.rows c.expire-2.new.timeline.rows c.loop-silence.told.items c.expire-2.new.told.items) c.requires
    told))))

pub returns-clause-last : goal.returns-clause-last
returns-clause-last g c =
    on_ok_then c.expire-2.result c.expire-2.ensures.last (λ last.
    subst (λ (f : Option ℕ). AllLast g.S.Ord.cmp f c.args.until c.expire-2.new.timeline.rows) c.loop-silence.invariant.bounds.0 last)

pub returns-clause-silences : goal.returns-clause-silences
returns-clause-silences g c =
    let cmp = g.S.Ord.cmp in
    let none : NoneFallsSilent cmp c.args.until c.loop-silence.watch = subst (λ (o : Option (Silence g.row.S.Denot)). IfNone o (NoneFallsSilent cmp c.args.until c.loop-silence.watch)) c.in_default.is c.in_ok-silence.ensures.none in
    let same : c.fall_silent.new.self ≡ c.loop-silence.watch = subst (λ (o : Option (Silence g.row.S.Denot)). IfNone o (c.fall_silent.new.self ≡ c.loop-silence.watch)) c.in_default.is c.in_ok-silence.ensures.same in
    on_ok_then c.expire-2.result c.expire-2.ensures.ok (λ ends.
    some_all cmp g.met.S.Ord.total g.met.S.Sender.exact c.args.until c.args.told.now.items c.loop-silence.told.items c.expire-2.new.told.items
    c.args.watch.now c.loop-silence.watch c.fall_silent.new.self ends.changes c.loop-silence.invariant.silences none same
    (subst (λ (q : AskedFor). IsTold cmp q ends.changes c.loop-silence.timeline.rows c.expire-2.new.timeline.rows c.loop-silence.told.items c.expire-2.new.told.items) c.requires ends.told))

pub returns-clause-holding : goal.returns-clause-holding
returns-clause-holding g c =
    on_ok_then c.expire-2.result c.expire-2.ensures.ok (λ ends.
    counts_changes g.S.Ord.cmp c.args.timeline.now.factor c.args.timeline.now.rows c.args.told.now.items c.loop-silence.told.items c.expire-2.new.told.items ends.changes
    (subst (λ (q : AskedFor). IsTold g.S.Ord.cmp q ends.changes c.loop-silence.timeline.rows c.expire-2.new.timeline.rows c.loop-silence.told.items c.expire-2.new.told.items) c.requires ends.told)
    c.loop-silence.invariant.ends.counts)
