-- Of the pairs so far the last IHU is told.
use Rattle.std.proofs.Common.{take}
use Rattle.std.specs.List.Sorted.{IsStrictlySortedBy}
use Rattle.std.specs.Map.{keys_of}
use Rattle.babel_selection.specs.Hearing.{last_kept, pair_cmp}
use Rattle.babel_selection.specs.LinkPairs.{sends_beside}
use Rattle.babel_selection.proofs.LinkLaws.{AreToldOf}
use Rattle.babel_selection.proofs.link_pairs.links.Given as goal

abbrev pub invariant-loop-pair : goal.invariant-loop-pair
invariant-loop-pair g l = record {
  in_order : IsStrictlySortedBy (pair_cmp g.S.Ord.cmp) (keys_of l.links.entries);
  told : AreToldOf g.S.Ord.cmp
      (λ p. last_kept g.S.Ord.cmp l.ihus p.router p.neighbour (sends_beside g.S.Ord.cmp g.S.LinkNode.are_beside l.senders p.router p.neighbour))
      (take l.pair-index l.pair-items) l.links.entries;
}
