-- The senders so far and those that are left are all of them.
use Rattle.std.proofs.Common.{◌≡◌, ◌++◌}
use Rattle.babel_dump.specs.LoneSender.{announcing}
use Rattle.babel_dump.proofs.lone_sender.announcing.Given as goal

abbrev pub invariant-loop-origin : goal.invariant-loop-origin
invariant-loop-origin l = l.origins.items ++ announcing l.origin-iterator ≡ announcing l.gathered.senders
