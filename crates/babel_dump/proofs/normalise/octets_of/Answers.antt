use Rattle.babel_dump.proofs.normalise.octets_of.Goals as goal

pub returns-in-Answers-clause-ok : goal.returns-in-Answers-clause-ok
returns-in-Answers-clause-ok c = rw c.in-Answers.is c.normal_octets.ensures.ok

pub returns-in-Routes-clause-ok : goal.returns-in-Routes-clause-ok
returns-in-Routes-clause-ok c = rw c.in-Routes.is c.octets_of_routes.ensures.ok
