-- What is known of each address is by the senders so far.
use Rattle.babel_dump.proofs.FellowLaws.{Filling}
use Rattle.babel_dump.proofs.fellows.Occurring.new.Given as goal

abbrev pub invariant-loop-origin : goal.invariant-loop-origin
invariant-loop-origin g l = Filling l.senders.entries l.origin-iterator l.lone.entries
