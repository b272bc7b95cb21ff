-- With those that are left they are all.
use Rattle.std.proofs.Common.{◌≡◌, ◌++◌}
use Rattle.std.specs.List.{flat_map}
use Rattle.std.specs.Map.{keys_of}
use Rattle.babel_selection.specs.LinkPairs.{pairs_beside, pairs_kept}
use Rattle.babel_selection.proofs.link_pairs.pairs_named.Given as goal

abbrev pub invariant-loop-pair : goal.invariant-loop-pair
invariant-loop-pair g l = l.pairs.items ++ keys_of l.pair-iterator ≡ keys_of l.ihus.named

abbrev pub invariant-loop-router : goal.invariant-loop-router
invariant-loop-router g l = l.pairs.items ++ flat_map (λ router. pairs_beside g.S.LinkNode.are_beside router l.senders.keys) (keys_of l.router-iterator)
    ≡ pairs_kept g.S.LinkNode.are_beside l.ihus l.senders.keys
