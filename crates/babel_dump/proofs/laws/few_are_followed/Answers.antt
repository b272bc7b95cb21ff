use Rattle.babel_dump.proofs.FollowedLaws.{few_are_followed, who_announces_is_followed}
use Rattle.babel_dump.proofs.laws.few_are_followed.Goals as goal

pub returns-clause-few : goal.returns-clause-few
returns-clause-few c = few_are_followed

pub returns-clause-announcing : goal.returns-clause-announcing
returns-clause-announcing c = who_announces_is_followed
