-- What a sink has of the boxes of a grid whose family is known.
use Rattle.std.proofs.Common.{◌≡◌, List, ◌++◌, map, subst}
use Rattle.babel_prefix.specs.declared.family.Family.{Family}
use Rattle.babel_prefix.specs.Best.{Row}
use Rattle.babel_prefix.specs.Entries.{Entry}
use Rattle.babel_trie.specs.Nested.{entry_at}

pub put_of_family : {V : Type 0} (has : List (Entry V) → Type 0) (rows : List (Entry V)) (boxes : List (Row V)) (own family : Family) → own ≡ family
    → has (rows ++ map (entry_at own) boxes) → has (rows ++ map (entry_at family) boxes)
put_of_family has rows boxes own family is has_own = subst (λ (f : Family). has (rows ++ map (entry_at f) boxes)) is has_own
