-- What two functions of two addresses answer differently, as a function and as its boxes: this
-- project's own.
use Rattle.std.specs.Prelude.{◌≡◌, ◌≢◌, ℕ, ◌^◌, ◌<◌, List, Option, Some, None}
use Rattle.babel_prefix.specs.Best.{Row}
use Rattle.babel_trie.specs.Boxes.{Answers, IsBoxList}
use Rattle.babel_trie.specs.declared.differing.Differing.{Differing}

module _ {V : Type 0} where
  -- nothing where both answers are one, and else the two answers
  abbrev pub TellsApart : Option V → Option V → Option (Differing V) → Type 0
  TellsApart left right None = left ≡ right
  TellsApart left right (Some both) = (left ≢ right) × (both.left ≡ left) × (both.right ≡ right)

  -- the difference of two functions: it tells their answers apart at each pair of addresses
  abbrev pub IsDifference : ℕ → Answers V → Answers V → Answers (Differing V) → Type 0
  IsDifference width f g difference =
      (d s : ℕ) → d < 2 ^ width → s < 2 ^ width → TellsApart (f d s) (g d s) (difference d s)

  -- the boxes of the difference, each once, in order
  pub record AreDifferences (width : ℕ) (f g : Answers V)
      (boxes : List (Row (Differing V))) : Type 0 where
    pub difference : Answers (Differing V)
    pub is_difference : IsDifference width f g difference
    pub box_list : IsBoxList width difference boxes
