-- What follows of all differences of two tables: when there are none, what the first one has, that
-- there are no fewer, and one list.
use Rattle.std.specs.Prelude.{◌≡◌, ◌↔◌, ◌+◌, ◌<◌, ◌≤◌, List, [], ◌∷◌, length, Option}
use Rattle.babel_prefix.specs.declared.family.Family.{Family}
use Rattle.babel_prefix.specs.declared.family.Family.TheVariants.{V4, V6}
use Rattle.babel_prefix.specs.Width.{width_of}
use Rattle.babel_prefix.specs.Address.{Address}
use Rattle.babel_prefix.specs.Best.{Row}
use Rattle.babel_trie.specs.Boxes.{Answers}
use Rattle.babel_trie.specs.Differences.{IsDifference}
use Rattle.babel_trie.specs.Tables.{IsDisjointTable}
use Rattle.babel_trie.specs.declared.differing.Differing.{Differing}
use Rattle.babel_tlv.specs.declared.held.Held.{Held}
use Rattle.babel_tlv.specs.Pair.{Pair}
use Rattle.babel_canon.specs.Boxes.{answers_of}
use Rattle.babel_canon.specs.Answers.{AnswerTheSame}
use Rattle.babel_table.specs.Bounds.{Bounds}
use Rattle.babel_table.specs.BestMatch.{ContainsBoth}
use Rattle.babel_canon.specs.Verdict.{IsLeastDifference}
use Rattle.babel_canon.specs.declared.every_difference.Difference.{Difference}
use Rattle.babel_canon.specs.Differences.{AreDifferences, HasManyDifferences}

-- there is none exactly where the answers are the same
abbrev pub NoneWhereSame : Type 0
NoneWhereSame =
    (rows others : List Pair) (differences : List Difference)
    → AreDifferences rows others differences → (differences ≡ []) ↔ AnswerTheSame rows others

-- two disjoint lists of rows that tell the same differences, one of each family, are together no
-- shorter
abbrev pub DifferencesAreFewest : Type 0
DifferencesAreFewest =
    (rows others : List Pair) (differences : List Difference)
    → AreDifferences rows others differences
    → (told : (family : Family) → Answers (Differing Held))
    → ((family : Family)
    → IsDifference (width_of family) (answers_of family rows) (answers_of family others)
    (told family))
    → (v4 v6 : List (Row (Differing Held)))
    → IsDisjointTable (width_of V4) (told V4) v4 → IsDisjointTable (width_of V6) (told V6) v6
    → length differences ≤ length v4 + length v6

-- the first one has the least pair of addresses at which the answers differ
abbrev pub FirstHasLeast : Type 0
FirstHasLeast =
    (rows others : List Pair) (first : Difference) (rest : List Difference)
    → AreDifferences rows others (first ∷ rest)
    → (dst src : Address) (left right : Option Held)
    → IsLeastDifference rows others dst src left right → ContainsBoth dst src first.key

-- two tables have at most one list of differences
abbrev pub DifferencesAreOne : Type 0
DifferencesAreOne =
    (rows others : List Pair) (differences too : List Difference)
    → AreDifferences rows others differences → AreDifferences rows others too → differences ≡ too

-- where two tables have these differences, they have more than the limit exactly if these are more
abbrev pub ManyAreMore : Type 0
ManyAreMore =
    (limits : Bounds) (rows others : List Pair) (differences : List Difference)
    → AreDifferences rows others differences
    → HasManyDifferences limits rows others ↔ (limits.entries < length differences)
