-- Which pairs of routers and neighbours are looked at for links. No RFC speaks of these.
use Rattle.std.specs.Prelude.{Bool, ◌&&◌, List, ◌++◌, map}
use Rattle.std.specs.declared.cmp.Ordering.{Ordering}
use Rattle.std.specs.BTreeSet.{BTreeSet, contains}
use Rattle.std.specs.List.{filter, flat_map}
use Rattle.std.specs.Map.{keys_of}
use Rattle.babel_selection.specs.declared.ihus.Pair.{Pair}
use Rattle.babel_selection.specs.Hearing.{LastIhus, pair_of}

-- whether the neighbour is beside the router, and is one of those that send
abbrev pub sends_beside : {S : Type 0} → (S → S → Ordering) → (are_beside : S → S → Bool)
    → (senders : BTreeSet S) → (router neighbour : S) → Bool
sends_beside cmp are_beside senders router neighbour =
    are_beside router neighbour && contains cmp senders neighbour

module _ {S : Type 0} (are_beside : S → S → Bool) where
  -- a router with each of these that is beside it
  abbrev pub pairs_beside : S → List S → List (Pair S)
  pairs_beside router senders = map (pair_of router) (filter (are_beside router) senders)

  -- the pairs of the last IHUs: those that are named, and those of each router that names all
  -- others, with who sends
  abbrev pub pairs_kept : LastIhus S → List S → List (Pair S)
  pairs_kept ihus senders = keys_of ihus.named
      ++ flat_map (λ router. pairs_beside router senders) (keys_of ihus.to_all)
