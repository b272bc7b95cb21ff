-- What a dump answers for a destination and a source address: RFC 9079, 4.
use Rattle.std.specs.Prelude.{◌≡◌, ℕ, List}
use Rattle.babel_prefix.specs.Address.{Address}
use Rattle.babel_prefix.specs.Entries.{answer_for}
use Rattle.babel_tlv.specs.declared.mode.Mode.{Mode}
use Rattle.babel_table.specs.RowFor.{IsBestOf, held_of, row_for}
use Rattle.babel_table.specs.Bounds.{Bounds}
use Rattle.babel_table.specs.TableOf.{IsTableOf}
use Rattle.babel_table.specs.Rows.{Routes, entries_of}
use Rattle.babel_table.specs.declared.answer.Answer.{Answer}

-- the row by which the table of a dump answers for the addresses, and its report; what the row
-- holds is also the answer by which tables are compared
pub record IsAnswerOf (limits : Bounds) (mode : Mode) (sender : Address) (dump : List ℕ)
    (dst src : Address) (answer : Answer) : Type 0 where
  pub table : Routes
  pub is_table : IsTableOf limits mode sender dump table
  pub best : IsBestOf table.rows dst src answer.row
  pub row : answer.row ≡ row_for table.rows dst src
  pub same : held_of answer.row ≡ answer_for (entries_of table.rows) dst src
  pub report : answer.report ≡ table.report
