-- The next is added where its sender is not lost.
use Rattle.std.proofs.Common.{rules}
use Rattle.babel_dump.proofs.HeardRecords.{told_next}
use Rattle.babel_dump.proofs.SpeakerLaws.{speaker_order}
use Rattle.babel_dump.proofs.hearing.Hearing.add.Goals as goal

pub loop-telling-preserved : goal.loop-telling-preserved
loop-telling-preserved c =
    told_next _ speaker_order c.args.self.now.lost c.args.self.now.printed.items c.loop-telling.telling-index c.telling-item.result
    (rw c.deref-telling-items.ensures.value at c.loop-telling-test.true) (rw c.deref-telling-items.ensures.value at c.telling-item.is)
    c.loop-telling.told.items c.if-not-contains.told.items c.args.told.now.items c.loop-telling.invariant c.contains.result (search rules) (search rules)
