use Rattle.babel_dump.proofs.SinceLaws.{answer_kept}
use Rattle.babel_dump.proofs.SpeakerLaws.{speaker_order}
use Rattle.babel_dump.proofs.since.Since.put.Goals as goal

pub returns-in-Ok-clause-answers : goal.returns-in-Ok-clause-answers
returns-in-Ok-clause-answers c = answer_kept _ speaker_order c.args.self.now.answers c.insert.new.self c.args.sender c.args.answer _ c.in-Some.is c.in-Ok.ensures.updates.0

pub returns-in-None-clause-answers : goal.returns-in-None-clause-answers
returns-in-None-clause-answers c = answer_kept _ speaker_order c.args.self.now.answers c.remove.new.self c.args.sender c.args.answer _ c.in-None.is c.remove.ensures.updates.0
