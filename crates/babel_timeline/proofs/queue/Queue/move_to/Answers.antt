-- The set has the one expiry in place of the other.
use Rattle.babel_timeline.proofs.KeptLaws.{same_law, same_times}
use Rattle.babel_timeline.proofs.queue.Queue.move_to.Goals as goal

pub returns-else-ne-clause-ok : goal.returns-else-ne-clause-ok
returns-else-ne-clause-ok g c other =
    same_law g.S.Ord.cmp c.args.subject.now c.args.from c.args.to other _ (same_times c.args.from c.args.to c.if-ne.ensures) (c.requires other)
