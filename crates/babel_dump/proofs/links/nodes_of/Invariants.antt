-- The nodes so far and the senders that are left are all senders.
use Rattle.babel_dump.proofs.LinkNodes.{AreSoFar}
use Rattle.babel_dump.proofs.links.nodes_of.Given as goal

abbrev pub invariant-loop-origin : goal.invariant-loop-origin
invariant-loop-origin l = AreSoFar l.nodes l.origin-iterator l.gathered.senders
