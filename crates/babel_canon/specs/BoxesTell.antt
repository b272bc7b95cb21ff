-- What follows of the boxes of tables: their answers, and when they are equal.
use Rattle.std.specs.Prelude.{◌≡◌, ◌↔◌, List}
use Rattle.babel_tlv.specs.Pair.{Pair}
use Rattle.babel_canon.specs.Boxes.{AreBoxes}
use Rattle.babel_canon.specs.Answers.{AnswerTheSame}

-- the boxes of rows have the answers of the rows
abbrev pub BoxesAnswer : Type 0
BoxesAnswer = (rows boxes : List Pair) → AreBoxes rows boxes → AnswerTheSame boxes rows

-- boxes are equal exactly where the answers are the same
abbrev pub BoxesTellApart : Type 0
BoxesTellApart =
    (rows others boxes other_boxes : List Pair) → AreBoxes rows boxes → AreBoxes others other_boxes
    → (boxes ≡ other_boxes) ↔ AnswerTheSame rows others
