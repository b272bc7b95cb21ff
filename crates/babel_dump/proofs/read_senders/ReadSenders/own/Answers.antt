use Rattle.babel_dump.proofs.read_senders.ReadSenders.own.Goals as goal

pub returns-in_ok-push-in-Ok-clause-own : goal.returns-in_ok-push-in-Ok-clause-own
returns-in_ok-push-in-Ok-clause-own c = λ made whole fed. c.in-Ok.ensures.ok made c.args.origin whole fed
