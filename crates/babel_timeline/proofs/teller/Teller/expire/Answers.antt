-- All that is told of rows is told.
use Rattle.babel_timeline.proofs.SilenceTold.{ends_of_rows}
use Rattle.babel_timeline.proofs.TakingLaws.{on_ok_then}
use Rattle.babel_timeline.proofs.teller.Teller.expire.Goals as goal

pub returns-clause-ok : goal.returns-clause-ok
returns-clause-ok g c =
    on_ok_then c.expire.result c.expire.ensures.ok
    (ends_of_rows g.S.Ord.cmp c.args.self.now.timeline.factor c.args.self.now.interest.asked c.args.until c.args.self.now.timeline.rows c.expire.new.timeline.rows c.args.told.now.items c.expire.new.told.items)
