-- What was heard of the senders so far, and of those that are left, is all.
use Rattle.std.proofs.Common.{◌≡◌, ◌++◌, map}
use Rattle.babel_dump.specs.FollowedSenders.{with_packets}
use Rattle.babel_dump.specs.HeardSenders.{heard_of, heard_told}
use Rattle.babel_dump.proofs.events.Followed.senders.Given as goal

abbrev pub invariant-loop-origin : goal.invariant-loop-origin
invariant-loop-origin l = map heard_told l.senders.items ++ map (heard_of l.self) (with_packets l.origin-iterator) ≡ map (heard_of l.self) (with_packets l.self.follower.senders.senders.entries)
