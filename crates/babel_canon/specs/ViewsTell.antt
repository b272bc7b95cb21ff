-- What follows of what views see of tables, and that the view that keeps all is none.
use Rattle.std.specs.Prelude.{◌≡◌, ℕ, List, ◌↔◌}
use Rattle.std.specs.Option.{option_map}
use Rattle.babel_prefix.specs.Address.{Address}
use Rattle.babel_prefix.specs.Entries.{answer_for}
use Rattle.babel_tlv.specs.declared.mode.Mode.{Mode}
use Rattle.babel_tlv.specs.declared.view.View.{View}
use Rattle.babel_tlv.specs.Pair.{Pair}
use Rattle.babel_tlv.specs.Views.{keeps_all, seen}
use Rattle.babel_table.specs.Bounds.{Bounds}
use Rattle.babel_table.specs.Rows.{entries_of}
use Rattle.babel_table.specs.Seen.{seen_rows}
use Rattle.babel_table.specs.TableRows.{AreRows}
use Rattle.babel_canon.specs.Answers.{AnswerTheSame}
use Rattle.babel_canon.specs.Sent.{Sent}
use Rattle.babel_canon.specs.Normalises.{Normalises, as_they_are}
use Rattle.babel_canon.specs.Views.{AnswerTheSameUnder}

-- what a view sees of rows answers, for each two addresses, what it sees of the rows' answer
abbrev pub AnswersAreSeen : Type 0
AnswersAreSeen =
    (view : View) (rows : List Pair) (d s : Address)
    → answer_for (entries_of (seen_rows view rows)) d s
    ≡ option_map (seen view d.family) (answer_for (entries_of rows) d s)

-- tables answer the same under a view exactly where what the view sees of them answers the same
abbrev pub SeenAnswersTell : Type 0
SeenAnswersTell =
    (view : View) (rows others : List Pair) → AreRows rows → AreRows others
    → AnswerTheSameUnder view rows others
    ↔ AnswerTheSame (seen_rows view rows) (seen_rows view others)

-- the view that keeps all sees rows as they are
abbrev pub AllRowsAreSeen : Type 0
AllRowsAreSeen = (rows : List Pair) → seen_rows keeps_all rows ≡ rows

-- under the view that keeps all the canonical form is that without a view
abbrev pub AllNormalises : Type 0
AllNormalises =
    (limits : Bounds) (mode : Mode) (body : ℕ) (one : Sent) (octets : List ℕ)
    → Normalises (seen_rows keeps_all) limits mode body one octets
    ↔ Normalises as_they_are limits mode body one octets
