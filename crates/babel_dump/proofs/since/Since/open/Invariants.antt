-- The answers of the senders so far, and of those that are left, are all.
use Rattle.std.proofs.Common.{◌≡◌, ◌++◌, map}
use Rattle.babel_dump.specs.EventsRun.{answer_told}
use Rattle.babel_dump.proofs.since.Since.open.Given as goal

abbrev pub invariant-loop-sender : goal.invariant-loop-sender
invariant-loop-sender l = l.told.items ++ map (answer_told l.moment) l.sender-iterator ≡ l.initial.told.items ++ map (answer_told l.moment) l.self.answers.entries
