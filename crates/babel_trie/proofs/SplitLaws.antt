-- Rows are those of their split.
use Rattle.std.proofs.Common.{◌≡◌, List, [], ◌∷◌, Option, Some, None}
use Rattle.std.specs.Option.{MatchOption}
use Rattle.babel_prefix.specs.Entries.{Entry}
use Rattle.babel_trie.specs.Split.{rows_of_split}

pub rows-split : {V R : Type 0} (rows : R → List (Entry V)) (all : List (Entry V)) (split : Option (Entry V × R))
    → MatchOption split (all ≡ []) (λ parts. all ≡ parts.0 ∷ rows parts.1) → all ≡ rows_of_split rows split
rows-split rows all None is = is
rows-split rows all (Some parts) is = is
