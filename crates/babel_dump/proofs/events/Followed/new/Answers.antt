use Rattle.babel_dump.proofs.EventsFollowed.{followed_none}
use Rattle.babel_dump.proofs.events.Followed.new.Goals as goal

pub returns-clause-none : goal.returns-clause-none
returns-clause-none c =
    let made = c.within-capture.ensures.made in
    let follower = c.new-follower.ensures in
    followed_none c.args.events.now _ c.within-capture.ensures.read made.0 made.1 made.2 follower.events follower.nobody follower.none follower.others follower.told follower.fault
