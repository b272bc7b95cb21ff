-- Sender by sender, until none is left.
use Rattle.babel_dump.specs.contracts.node.NodeOrd.TheImpl.{ghosts}
use Rattle.babel_dump.proofs.LinkNodes.{all_sent, next_sender, node_put}
use Rattle.babel_dump.proofs.NodeLaws.{node_order}
use Rattle.babel_dump.proofs.links.nodes_of.Goals as goal

pub loop-origin-preserved : goal.loop-origin-preserved
loop-origin-preserved c =
    let nodes = c.loop-origin.nodes in
    let new = c.insert.new.self in
    let origin = c.in-Some.origin.now in
    next_sender nodes new c.loop-origin.origin-iterator c.next.new.self c.args.gathered.now.senders (origin, c.in-Some.field-0-1.now) c.loop-origin.invariant c.in-Some.ensures.steps
    (node_put ghosts.cmp nodes new c.of.result origin node_order c.of.ensures c.in_ok-insert.ensures.updates.0)

pub returns : goal.returns
returns c = all_sent c.loop-origin.nodes c.loop-origin.origin-iterator c.args.gathered.now.senders c.loop-origin.invariant c.in-None.ensures.steps.0
