-- Laws of the definitions: what dumps answer is what their tables answer, and is told by canonical
-- octets. These are this project's own.
use Rattle.std.specs.Prelude.{◌≡◌, ◌↔◌, ℕ, Bool, List, Option}
use Rattle.babel_prefix.specs.Address.{Address, IsAddress}
use Rattle.babel_prefix.specs.Entries.{answer_for}
use Rattle.babel_tlv.specs.declared.held.Held.{Held}
use Rattle.babel_tlv.specs.declared.mode.Mode.{Mode}
use Rattle.babel_table.specs.Bounds.{Bounds, AreBounds}
use Rattle.babel_table.specs.Rows.{Routes, entries_of}
use Rattle.babel_table.specs.TableOf.{IsTableOf}
use Rattle.babel_canon.specs.Sent.{Sent}
use Rattle.babel_canon.specs.Normalises.{Normalises, NormaliseFault, as_they_are}
use Rattle.babel_canon.specs.Sizes.{IsBodySize}
use Rattle.babel_canon.specs.DumpAnswers.{DumpAnswers, IsSettled}
use Rattle.babel_canon.specs.AnswersTell.{AnswersTell}

-- what a dump with a table answers is what the table answers
abbrev pub TableAnswers : Type 0
TableAnswers =
    (limits : Bounds) (mode : Mode) (one : Sent) (table : Routes)
    → IsTableOf limits mode one.sender one.dump table
    → (d s : Address) → IsAddress d → IsAddress s → d.family ≡ s.family → (answer : Option Held)
    → DumpAnswers limits.via_v6 mode one d s answer
    ↔ (answer_for (entries_of table.rows) d s ≡ answer)

-- a dump with a table has one answer for two addresses
abbrev pub AnswerIsOne : Type 0
AnswerIsOne =
    (limits : Bounds) (mode : Mode) (one : Sent) (table : Routes)
    → IsTableOf limits mode one.sender one.dump table
    → (d s : Address) → IsAddress d → IsAddress s → d.family ≡ s.family
    → (answer other : Option Held) → DumpAnswers limits.via_v6 mode one d s answer
    → DumpAnswers limits.via_v6 mode one d s other → answer ≡ other

-- a settled dump has an answer for two addresses, and has but one
abbrev pub SettledIsOne : Type 0
SettledIsOne =
    (via_v6 : Bool) (mode : Mode) (one : Sent) → IsSettled via_v6 mode one
    → (d s : Address) → IsAddress d → IsAddress s → d.family ≡ s.family
    → ((answer : Option Held) × DumpAnswers via_v6 mode one d s answer)
    × ((answer other : Option Held) → DumpAnswers via_v6 mode one d s answer
    → DumpAnswers via_v6 mode one d s other → answer ≡ other)

-- canonical octets tell what dumps answer
abbrev pub AnswersAreTold : Type 0
AnswersAreTold =
    (limits : Bounds) (mode : Mode) (body : ℕ) → AreBounds limits → IsBodySize body
    → (one : Sent) (octets : List ℕ) → Normalises as_they_are limits mode body one octets
    → AnswersTell (Normalises as_they_are limits mode body)
    (NormaliseFault as_they_are limits mode) limits.via_v6 mode one octets
