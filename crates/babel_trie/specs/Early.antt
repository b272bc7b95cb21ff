-- What is known of the boxes of answers before all of them are known: this project's own.
use Rattle.std.specs.Prelude.{◌≡◌, ℕ, ◌^◌, ◌<◌, ◌≤◌, List, length}
use Rattle.babel_prefix.specs.Best.{Row}
use Rattle.babel_prefix.specs.Members.{Listed}
use Rattle.babel_trie.specs.Boxes.{Answers, IsBoxList}
use Rattle.babel_trie.specs.Differences.{AreDifferences}
use Rattle.babel_trie.specs.declared.differing.Differing.{Differing}
use Rattle.babel_trie.specs.declared.runs.Change.{Change}

module _ {F V : Type 0} where
  -- up to the start of each change the two functions answer the same
  abbrev pub AgreeUpTo : ℕ → List (Change F) → Answers V → Answers V → Type 0
  AgreeUpTo w list f g =
      (x : Change F) → Listed list x → (d s : ℕ) → d ≤ x.start → s < 2 ^ w → f d s ≡ g d s

module _ {V : Type 0} where
  -- the boxes are more than this number
  abbrev pub HasMoreBoxes : ℕ → ℕ → Answers V → Type 0
  HasMoreBoxes most w f = (boxes : List (Row V)) × IsBoxList w f boxes × (most < length boxes)

  -- the boxes of what two functions answer differently are more than this number
  abbrev pub HasMoreDifferences : ℕ → ℕ → Answers V → Answers V → Type 0
  HasMoreDifferences most w f g =
      (boxes : List (Row (Differing V))) × AreDifferences w f g boxes × (most < length boxes)
