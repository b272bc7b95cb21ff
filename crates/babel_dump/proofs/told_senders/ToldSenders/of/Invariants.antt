-- What is told of the senders so far was made, and the others are left.
use Rattle.babel_dump.proofs.ToldSenders.{Making}
use Rattle.babel_dump.proofs.told_senders.ToldSenders.of.Given as goal

abbrev pub invariant-loop-origin : goal.invariant-loop-origin
invariant-loop-origin l = Making l.each l.read.moment l.read.gathered l.fn.tables.entries l.origin-iterator l.made
