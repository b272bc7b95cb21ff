use Rattle.std.proofs.Common.{◌≡◌, List, Option, Some, None, Result, Ok, Err, IfOk, ap, ◌∙◌, sym, subst}
use Rattle.std.specs.List.{All}
use Rattle.std.specs.Option.{IfSome, MatchOption}
use Rattle.babel_prefix.specs.declared.family.Family.{Family}
use Rattle.babel_prefix.specs.Width.{width_of}
use Rattle.babel_prefix.specs.Address.{Address}
use Rattle.babel_prefix.specs.Entries.{Entry, answers_in}
use Rattle.babel_prefix.specs.BestRow.{AreOfFamily, HasDistinctPrefixes}
use Rattle.babel_trie.specs.Boxes.{SameAnswers, IsLeastDifference}
use Rattle.babel_tlv.specs.declared.held.Held.{Held}
use Rattle.babel_tlv.specs.Pair.{Pair}
use Rattle.babel_table.specs.Left.{rows_left}
use Rattle.babel_table.specs.Rows.{entries_of}
use Rattle.babel_table.specs.TableRows.{family_rows}
use Rattle.babel_canon.specs.declared.values.PackedValue.{PackedValue}
use Rattle.babel_canon.specs.Values.{AreNumberedEntries, packed_entries}
use Rattle.babel_canon.specs.FirstDifference.{IsFirstInFamily}
use Rattle.babel_canon.proofs.Numbered.{AreDistinct, same_by_value, difference_by_value}
use Rattle.babel_canon.proofs.ValueLists.{distinct, entries_still, entries_say}
use Rattle.babel_canon.proofs.comparison.family_difference.Goals as goal

-- where the entries of two tables differ by number, the tables do
module _ (family : Family) (rows others : List Pair) (values : List Held) (once : AreDistinct values) (mine theirs : List (Entry PackedValue))
    (mine_are : AreNumberedEntries family rows values mine) (theirs_are : AreNumberedEntries family others values theirs) where
  by_value : {E : Type 0} (result : Result (Option (Address × Address)) E)
      → IfOk result (λ found. IfSome found (λ p. (p.0.family ≡ family) × (p.1.family ≡ family)))
      → IfOk result (λ found. MatchOption found (SameAnswers (width_of family) (answers_in family mine) (answers_in family theirs))
      (λ p. IsLeastDifference (width_of family) (answers_in family mine) (answers_in family theirs) p.0.bits p.1.bits))
      → IfOk result (IsFirstInFamily family rows others)
  by_value (Ok None) of_family same =
      same_by_value values (width_of family) (answers_in family mine) (answers_in family theirs) (answers_in family (entries_of rows)) (answers_in family (entries_of others))
      (entries_say values family rows mine mine_are) (entries_say values family others theirs theirs_are) same
  by_value (Ok (Some (dst, src))) of_family least = record {
    dst_of = of_family.0;
    src_of = of_family.1;
    least = difference_by_value values (width_of family) (answers_in family mine) (answers_in family theirs) (answers_in family (entries_of rows)) (answers_in family (entries_of others))
        (entries_say values family rows mine mine_are) (entries_say values family others theirs theirs_are) once dst.bits src.bits least;
  }
  by_value (Err e) of_family least = tt

pub least_difference_of-requires-clause-left_family : goal.least_difference_of-requires-clause-left_family
least_difference_of-requires-clause-left_family c =
    let same = c.of.ensures ∙ ap (packed_entries (family_rows c.args.family c.args.left.now.rows)) c.as_slice.ensures.value in
    subst (λ (es : List (Entry PackedValue)). All (AreOfFamily c.args.family) es) (sym same) c.in_ok-mine.ensures.entries.of_family

pub least_difference_of-requires-clause-left_prefixes : goal.least_difference_of-requires-clause-left_prefixes
least_difference_of-requires-clause-left_prefixes c =
    let same = c.of.ensures ∙ ap (packed_entries (family_rows c.args.family c.args.left.now.rows)) c.as_slice.ensures.value in
    subst HasDistinctPrefixes (sym same) c.in_ok-mine.ensures.prefixes

pub least_difference_of-requires-clause-right_family : goal.least_difference_of-requires-clause-right_family
least_difference_of-requires-clause-right_family c =
    let same = c.of-2.ensures ∙ ap (packed_entries (family_rows c.args.family c.args.right.now.rows)) c.as_slice-2.ensures.value in
    subst (λ (es : List (Entry PackedValue)). All (AreOfFamily c.args.family) es) (sym same) c.in_ok-theirs.ensures.entries.of_family

pub least_difference_of-requires-clause-right_prefixes : goal.least_difference_of-requires-clause-right_prefixes
least_difference_of-requires-clause-right_prefixes c =
    let same = c.of-2.ensures ∙ ap (packed_entries (family_rows c.args.family c.args.right.now.rows)) c.as_slice-2.ensures.value in
    subst HasDistinctPrefixes (sym same) c.in_ok-theirs.ensures.prefixes

pub returns : goal.returns
returns c =
    let family = c.args.family in
    let rows = c.args.left.now.rows in
    let others = c.args.right.now.rows in
    let old = c.family_values.new.values.list.items in
    let values = c.family_values-2.new.values.list.items in
    let entries = packed_entries (family_rows family rows) c.in_ok-mine.mine.items in
    let mine : AreNumberedEntries family rows values entries = entries_still old values c.in_ok-theirs.ensures.keeps family rows entries c.in_ok-mine.ensures.entries in
    let same = c.of.ensures ∙ ap (packed_entries (family_rows family rows)) c.as_slice.ensures.value in
    let same_others = c.of-2.ensures ∙ ap (packed_entries (family_rows family others)) c.as_slice-2.ensures.value in
    by_value family rows others values (distinct values c.family_values-2.new.values.numbers c.in_ok-theirs.ensures.numbered)
    (packed_entries (rows_left c.of.result.rows) c.of.result.values.now) (packed_entries (rows_left c.of-2.result.rows) c.of-2.result.values.now)
    (subst (λ (es : List (Entry PackedValue)). AreNumberedEntries family rows values es) (sym same) mine)
    (subst (λ (es : List (Entry PackedValue)). AreNumberedEntries family others values es) (sym same_others) c.in_ok-theirs.ensures.entries)
    c.least_difference_of.result c.least_difference_of.ensures.family c.least_difference_of.ensures.least
