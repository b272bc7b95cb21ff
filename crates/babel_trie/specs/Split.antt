-- Rows that are split into the first row and the others: this project's own.
use Rattle.std.specs.Prelude.{List, [], ◌∷◌, Option, Some, None}
use Rattle.babel_prefix.specs.Entries.{Entry}

-- the rows, where there are any
abbrev pub rows_of_split : {V R : Type 0} → (R → List (Entry V)) → Option (Entry V × R)
    → List (Entry V)
rows_of_split rows None = []
rows_of_split rows (Some split) = split.0 ∷ rows split.1
