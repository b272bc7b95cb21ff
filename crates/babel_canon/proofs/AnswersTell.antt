-- The headline by what dumps answer, from the headline by what tables answer.
use Rattle.std.proofs.Common.{◌≡◌, ◌↔◌, Option, refl, sym, ◌∙◌}
use Rattle.babel_prefix.specs.Entries.{answer_for}
use Rattle.babel_tlv.specs.declared.held.Held.{Held}
use Rattle.babel_tlv.specs.declared.mode.Mode.{Mode}
use Rattle.babel_table.specs.Bounds.{Bounds}
use Rattle.babel_table.specs.Rows.{Routes, entries_of}
use Rattle.babel_table.specs.TableOf.{IsTableOf}
use Rattle.babel_canon.specs.Answers.{AnswerTheSame}
use Rattle.babel_canon.specs.Sent.{Sent, sent}
use Rattle.babel_canon.specs.DumpAnswers.{DumpAnswers, IsSettled, AnswerAlike}
use Rattle.babel_canon.specs.AnswersAreTold.{AnswersAreTold, SettledIsOne}
use Rattle.babel_canon.proofs.Headline.{headline}
use Rattle.babel_canon.proofs.TableAnswers.{table_answers}

-- dumps answer alike exactly where their tables answer the same
module _ (limits : Bounds) (mode : Mode) (one other : Sent) (table others : Routes)
    (is_table : IsTableOf limits mode one.sender one.dump table)
    (is_other : IsTableOf limits mode other.sender other.dump others) where
  alike-from_same : AnswerTheSame table.rows others.rows → AnswerAlike limits.via_v6 mode one other
  alike-from_same same d s d_in s_in one_family answer =
      let here = table_answers limits mode one table is_table d s d_in s_in one_family answer in
      let there = table_answers limits mode other others is_other d s d_in s_in one_family answer in
      let equal = same d s d_in s_in one_family in
      ((λ is. there.1 (sym equal ∙ here.0 is)), (λ is. here.1 (equal ∙ there.0 is)))

  same-from_alike : AnswerAlike limits.via_v6 mode one other → AnswerTheSame table.rows others.rows
  same-from_alike alike d s d_in s_in one_family =
      let answer = answer_for (entries_of table.rows) d s in
      let here = table_answers limits mode one table is_table d s d_in s_in one_family answer in
      let there = table_answers limits mode other others is_other d s d_in s_in one_family answer in
      sym (there.0 ((alike d s d_in s_in one_family answer).0 (here.1 refl)))

settled : (limits : Bounds) (mode : Mode) (one : Sent) (table : Routes)
    → IsTableOf limits mode one.sender one.dump table → IsSettled limits.via_v6 mode one
settled limits mode one table is_table d s d_in s_in one_family =
    let answer = answer_for (entries_of table.rows) d s in
    let is : (a : Option Held) → DumpAnswers limits.via_v6 mode one d s a ↔ (answer ≡ a) =
    table_answers limits mode one table is_table d s d_in s_in one_family in
    (answer, (is answer).1 refl, (λ other too. sym ((is other).0 too)))

pub settled_is_one : SettledIsOne
settled_is_one via_v6 mode one is_settled d s d_in s_in one_family =
    let is = is_settled d s d_in s_in one_family in
    ((is.0, is.1), (λ answer other has too. is.2 answer has ∙ sym (is.2 other too)))

pub answers_are_told : AnswersAreTold
answers_are_told limits mode body bounds size one octets normal =
    let told = headline limits mode body bounds size one octets normal in
    record {
      settled = settled limits mode one normal.table normal.is_table;
      tells_apart = λ other other_octets made.
          let tell = told.0 other other_octets made in (
            (λ same. alike-from_same limits mode one other normal.table made.table normal.is_table made.is_table
                (tell.0 same normal.table made.table normal.is_table made.is_table)),
            (λ alike. tell.1 (λ table others is_table is_other. same-from_alike limits mode one other table others is_table is_other alike)),
          );
      reads_alike = λ any.
          let read = told.1 any in
          alike-from_same limits mode (sent any octets) one read.again.table normal.table
          read.again.is_table normal.is_table
          (read.answers read.again.table normal.table read.again.is_table normal.is_table);
      again = λ any. (told.1 any).again;
      unchanged = λ any. (told.1 any).unchanged;
      only_memory = λ any. (told.1 any).only_memory;
    }
