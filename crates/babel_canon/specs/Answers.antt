-- When two tables answer (RFC 9079, 4) the same: this project's own.
use Rattle.std.specs.Prelude.{◌≡◌, List}
use Rattle.babel_prefix.specs.Address.{Address, IsAddress}
use Rattle.babel_prefix.specs.Entries.{answer_for}
use Rattle.babel_tlv.specs.Pair.{Pair}
use Rattle.babel_table.specs.Rows.{entries_of}

-- the same answer for each destination and source of one family
abbrev pub AnswerTheSame : List Pair → List Pair → Type 0
AnswerTheSame rows others =
    (d s : Address) → IsAddress d → IsAddress s → d.family ≡ s.family
    → answer_for (entries_of rows) d s ≡ answer_for (entries_of others) d s
