-- With those that are left they are all.
use Rattle.std.proofs.Common.{◌≡◌, ◌++◌}
use Rattle.babel_selection.specs.LinkPairs.{pairs_beside}
use Rattle.babel_selection.proofs.link_pairs.add_beside.Given as goal

abbrev pub invariant-loop-sender : goal.invariant-loop-sender
invariant-loop-sender g l = l.pairs.items ++ pairs_beside g.S.LinkNode.are_beside l.router l.sender-iterator
    ≡ l.fn.pairs.items ++ pairs_beside g.S.LinkNode.are_beside l.router l.senders.keys
