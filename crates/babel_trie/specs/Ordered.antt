-- Rows in order: this project's own.
use Rattle.std.specs.Prelude.{List}
use Rattle.babel_prefix.specs.Entries.{Entry}
use Rattle.babel_trie.specs.declared.ordered.Ordered.{Ordered}
use Rattle.babel_trie.specs.declared.ordered.Ordered.TheVariants.{AsTheyAre, Sorted}

-- the rows, or the sorted copy of them
abbrev pub rows_of_ordered : {V R : Type 0} → (R → List (Entry V)) → Ordered V R → List (Entry V)
rows_of_ordered rows (AsTheyAre left) = rows left
rows_of_ordered rows (Sorted copy) = copy.now
