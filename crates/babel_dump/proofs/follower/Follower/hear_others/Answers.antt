use Rattle.babel_dump.proofs.RefusedRecords.{refuses_others}
use Rattle.babel_dump.proofs.follower.Follower.hear_others.Goals as goal

pub returns-in-Some-clause-refused : goal.returns-in-Some-clause-refused
returns-in-Some-clause-refused c =
    refuses_others c.args.self.now.events.now c.args.told.now c.args.self.now.other_sources c.in-Some.others c.hear.result c.in-Some.is c.hear.ensures.refused
