-- The rows stay where the queue is settled.
use Rattle.std.proofs.Common.{subst}
use Rattle.std.specs.Prelude.{IfNone, IfOk}
use Rattle.babel_timeline.specs.Rows.{AllLast, Rows}
use Rattle.babel_timeline.proofs.KeptLaws.{quiet_ends}
use Rattle.babel_timeline.proofs.timeline.Timeline.first_end.Goals as goal

pub returns-then-is_quiet-clause-none : goal.returns-then-is_quiet-clause-none
returns-then-is_quiet-clause-none g c =
    rw (← c.self.view_is)
    (quiet_ends g.S.Ord.cmp g.met.S.Ord.total g.met.S.Sender.exact c.self.inside.factor c.args.until c.self.inside.cells c.self.inside.queue.expiries c.self.invariant.queue (c.is_quiet.ensures c.if-is_quiet.true))

pub returns-clause-none : goal.returns-clause-none
returns-clause-none g c =
    rw (← c.self.view_is)
    (subst (λ (rows : Rows g.row.S.Denot). IfOk c.settle-first.result (λ first. IfNone first (AllLast g.S.Ord.cmp c.self.inside.factor c.args.until rows))) c.settle-first.ensures.same c.settle-first.ensures.none)
