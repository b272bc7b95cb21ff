-- The sender of what is missed is lost, and no other.
use Rattle.std.proofs.Common.{ap}
use Rattle.babel_capture.specs.Sinking.{missed_said}
use Rattle.babel_dump.proofs.HeardRecords.{lost_more}
use Rattle.babel_dump.proofs.SpeakerLaws.{speaker_order}
use Rattle.babel_dump.proofs.hearing.Hearing.lose.Goals as goal

pub returns-in_ok-lost-in-Ok-true-clause-lost : goal.returns-in_ok-lost-in-Ok-true-clause-lost
returns-in_ok-lost-in-Ok-true-clause-lost c =
    lost_more _ speaker_order c.args.self.now.lost c.insert.new.self c.in-Missed.missed (missed_said c.args.said.now.said) (ap missed_said c.in-Missed.is) c.in-Ok-true.ensures.updates.0

pub returns-in-Ok-false-clause-lost : goal.returns-in-Ok-false-clause-lost
returns-in-Ok-false-clause-lost c =
    lost_more _ speaker_order c.args.self.now.lost c.insert.new.self c.in-Missed.missed (missed_said c.args.said.now.said) (ap missed_said c.in-Missed.is) c.in-Ok-false.ensures.updates.0
