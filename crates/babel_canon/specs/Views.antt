-- What canonical octets under a view tell of the dumps that they were made from: this project's
-- own.
use Rattle.std.specs.Prelude.{◌≡◌, ℕ, List}
use Rattle.babel_prefix.specs.Address.{Address, IsAddress}
use Rattle.babel_prefix.specs.Entries.{answer_for}
use Rattle.babel_tlv.specs.declared.mode.Mode.{Mode}
use Rattle.babel_tlv.specs.declared.view.View.{View}
use Rattle.babel_tlv.specs.Pair.{Pair}
use Rattle.babel_tlv.specs.Views.{SameUnder}
use Rattle.babel_table.specs.Bounds.{Bounds, AreBounds}
use Rattle.babel_table.specs.Rows.{entries_of}
use Rattle.babel_table.specs.Seen.{seen_rows}
use Rattle.babel_canon.specs.Sizes.{IsBodySize}
use Rattle.babel_canon.specs.Headline.{TellsApart, ReadsAgain}
use Rattle.babel_canon.specs.Sent.{Sent}
use Rattle.babel_canon.specs.Normalises.{Normalises, NormaliseFault, as_they_are}

-- the same answer under a view for each destination and source of one family
abbrev pub AnswerTheSameUnder : View → List Pair → List Pair → Type 0
AnswerTheSameUnder view rows others =
    (d s : Address) → IsAddress d → IsAddress s → d.family ≡ s.family
    → SameUnder view (answer_for (entries_of rows) d s) (answer_for (entries_of others) d s)

-- `ReadsAgain` under a view: what is the same is the same under the view, and what is made of a
-- dump is the canonical form of what `see` sees: what the view sees of rows, or rows as they are
abbrev pub ReadsAgainSeen : View → (see : List Pair → List Pair) → Bounds → Mode → ℕ → Sent → List ℕ
    → Address → Type 0
ReadsAgainSeen view see limits mode body = ReadsAgain (AnswerTheSameUnder view)
    (Normalises see limits mode body) (NormaliseFault see limits mode) limits mode

-- The headline for every view: canonical octets under a view are equal exactly where the answers
-- under it are the same, and, read with any sender, give the answers under the view again and are
-- their own canonical form, with it and without.
abbrev pub HeadlineUnder : Type 0
HeadlineUnder =
    (view : View) (limits : Bounds) (mode : Mode) (body : ℕ) → AreBounds limits → IsBodySize body
    → (one : Sent) (octets : List ℕ) → Normalises (seen_rows view) limits mode body one octets
    → TellsApart (AnswerTheSameUnder view) (Normalises (seen_rows view) limits mode body)
    limits mode one octets
    × ((any : Address) → ReadsAgainSeen view (seen_rows view) limits mode body one octets any
    × ReadsAgainSeen view as_they_are limits mode body one octets any)
