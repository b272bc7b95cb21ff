-- What follows of the boxes of a difference: when there are none, what the first one has, and that
-- there are no fewer.
use Rattle.std.specs.Prelude.{◌≡◌, ◌↔◌, ℕ, ◌≤◌, List, [], ◌∷◌, length}
use Rattle.babel_prefix.specs.Covers.{BlockCovers}
use Rattle.babel_prefix.specs.Best.{Row}
use Rattle.babel_trie.specs.Boxes.{Answers, HasEqualityTest, IsLeastDifference, SameAnswers}
use Rattle.babel_trie.specs.Tables.{IsDisjointTable}
use Rattle.babel_trie.specs.declared.differing.Differing.{Differing}
use Rattle.babel_trie.specs.Differences.{IsDifference, AreDifferences}

-- there is none exactly where the functions answer the same
abbrev pub NoneWhereSame : Type 0 → Type 0
NoneWhereSame V =
    HasEqualityTest V → (width : ℕ) (f g : Answers V) (boxes : List (Row (Differing V))) →
    AreDifferences width f g boxes → (boxes ≡ []) ↔ SameAnswers width f g

-- the first one has the least pair of addresses at which the functions differ
abbrev pub FirstHasLeast : Type 0 → Type 0
FirstHasLeast V =
    HasEqualityTest V →
    (width : ℕ) (f g : Answers V) (first : Row (Differing V))
    (rest : List (Row (Differing V))) →
    AreDifferences width f g (first ∷ rest) → (dst src : ℕ) → IsLeastDifference width f g dst src →
    BlockCovers width first.dst dst × BlockCovers width first.src src

-- no disjoint list with the difference of the functions is shorter
abbrev pub DifferencesAreFewest : Type 0 → Type 0
DifferencesAreFewest V =
    (width : ℕ) (f g : Answers V) (boxes rows : List (Row (Differing V)))
    (difference : Answers (Differing V)) →
    AreDifferences width f g boxes → IsDifference width f g difference →
    IsDisjointTable width difference rows →
    length boxes ≤ length rows
