-- Where nothing is queued up to a time, no row ends by it.
use Rattle.babel_timeline.proofs.KeptLaws.{quiet_ends}
use Rattle.babel_timeline.proofs.timeline.Timeline.is_quiet.Goals as goal

pub returns : goal.returns
returns g c quiet =
    rw (← c.self.view_is)
    (quiet_ends g.S.Ord.cmp g.met.S.Ord.total g.met.S.Sender.exact c.self.inside.factor c.args.until c.self.inside.cells c.self.inside.queue.expiries c.self.invariant.queue (c.is_quiet.ensures quiet))
