-- The rows of the senders so far were taken, and the others are left.
use Rattle.babel_dump.proofs.OriginsTold.{Taking}
use Rattle.babel_dump.proofs.told_origins.ToldOrigins.take.Given as goal

abbrev pub invariant-loop-origin : goal.invariant-loop-origin
invariant-loop-origin l =
    Taking l.filter l.captured.side l.captured.each.now l.captured.read.now l.fn.tables.entries l.origin-iterator l.fn.self.originated.all.entries l.self.originated.all.entries
