-- The senders have no say in it.
use Rattle.std.proofs.Common.{◌≡◌}
use Rattle.babel_dump.proofs.done.Done.add_heard.Given as goal

abbrev pub invariant-loop-heard : goal.invariant-loop-heard
invariant-loop-heard l = l.self.status ≡ l.fn.self.status
