use Rattle.std.proofs.Common.{sym, ◌∙◌}
use Rattle.babel_capture.specs.Capture.{moment_read}
use Rattle.babel_dump.proofs.TakeLaws.{ends_by}
use Rattle.babel_dump.proofs.events.Followed.expire.Goals as goal

pub returns-in-Some-clause-ends : goal.returns-in-Some-clause-ends
returns-in-Some-clause-ends c suits =
    let old = c.args.self.now in
    ends_by c.expire.result c.args.events.now (moment_read old.capture) c.in-Some.moment (sym c.moment.ensures ∙ c.in-Some.is) old
    (record old { follower = record old.follower { hearing = c.expire.new.self; told = c.expire.new.told } }) (c.expire.ensures suits)
