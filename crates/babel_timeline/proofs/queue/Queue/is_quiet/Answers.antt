-- No time in the queue is before the soonest.
use Rattle.std.proofs.Common.{◌<◌, arith, rules, subst}
use Rattle.babel_timeline.specs.Kept.{NoneBy, Waiting}
use Rattle.babel_timeline.proofs.queue.Queue.is_quiet.Goals as goal

pub returns : goal.returns
returns g c quiet =
    let before : c.args.until < c.self.inside.soonest = search (rules, quiet) in
    subst (λ (w : Waiting g.row.S.Denot). NoneBy g.S.Ord.cmp c.args.until w.expiries) c.self.view_is
    (λ expiry held. omega (arith, c.self.invariant expiry held, before))
