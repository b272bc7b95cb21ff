-- The entries of the first table still have their rows when those of the second are packed, too.
use Rattle.std.proofs.Common.{List, ap, ◌∙◌, subst, sym}
use Rattle.std.proofs.lemmas.Option.{IfSome_then}
use Rattle.std.specs.List.{All}
use Rattle.babel_prefix.specs.Width.{width_of}
use Rattle.babel_prefix.specs.Entries.{Entry, answers_in}
use Rattle.babel_prefix.specs.BestRow.{AreOfFamily, HasDistinctPrefixes}
use Rattle.babel_trie.specs.Differences.{AreDifferences}
use Rattle.babel_table.specs.Left.{rows_left}
use Rattle.babel_table.specs.TableRows.{family_rows}
use Rattle.babel_canon.specs.declared.values.PackedValue.{PackedValue}
use Rattle.babel_canon.specs.Values.{packed_entries}
use Rattle.babel_canon.proofs.ManyDifferences.{more_by_value}
use Rattle.babel_canon.proofs.ValueLists.{distinct, entries_still}
use Rattle.babel_canon.proofs.every_difference.family_differences.Goals as goal

pub differences_within-requires-clause-left_family : goal.differences_within-requires-clause-left_family
differences_within-requires-clause-left_family c =
    let same = c.of-rows.ensures ∙ ap (packed_entries (family_rows c.args.family c.args.left.now.rows)) c.as_slice.ensures.value in
    subst (λ (es : List (Entry PackedValue)). All (AreOfFamily c.args.family) es) (sym same) c.in_ok-mine.ensures.entries.of_family

pub differences_within-requires-clause-left_prefixes : goal.differences_within-requires-clause-left_prefixes
differences_within-requires-clause-left_prefixes c =
    let same = c.of-rows.ensures ∙ ap (packed_entries (family_rows c.args.family c.args.left.now.rows)) c.as_slice.ensures.value in
    subst HasDistinctPrefixes (sym same) c.in_ok-mine.ensures.prefixes

pub differences_within-requires-clause-right_family : goal.differences_within-requires-clause-right_family
differences_within-requires-clause-right_family c =
    let same = c.of-others.ensures ∙ ap (packed_entries (family_rows c.args.family c.args.right.now.rows)) c.as_slice-2.ensures.value in
    subst (λ (es : List (Entry PackedValue)). All (AreOfFamily c.args.family) es) (sym same) c.in_ok-theirs.ensures.entries.of_family

pub differences_within-requires-clause-right_prefixes : goal.differences_within-requires-clause-right_prefixes
differences_within-requires-clause-right_prefixes c =
    let same = c.of-others.ensures ∙ ap (packed_entries (family_rows c.args.family c.args.right.now.rows)) c.as_slice-2.ensures.value in
    subst HasDistinctPrefixes (sym same) c.in_ok-theirs.ensures.prefixes

pub returns-clause-many : goal.returns-clause-many
returns-clause-many c is =
    let family = c.args.family in
    let values = c.family_values-2.new.values in
    let mine = packed_entries (family_rows family c.args.left.now.rows) c.in_ok-mine.mine.items in
    let theirs = packed_entries (family_rows family c.args.right.now.rows) c.in_ok-theirs.theirs.items in
    let same = c.of-rows.ensures ∙ ap (packed_entries (family_rows family c.args.left.now.rows)) c.as_slice.ensures.value in
    let same_others = c.of-others.ensures ∙ ap (packed_entries (family_rows family c.args.right.now.rows)) c.as_slice-2.ensures.value in
    let mine_are = entries_still c.family_values.new.values.list.items values.list.items c.in_ok-theirs.ensures.keeps family c.args.left.now.rows mine c.in_ok-mine.ensures.entries in
    more_by_value values.list.items (distinct values.list.items values.numbers c.in_ok-theirs.ensures.numbered) family c.args.left.now.rows
    c.args.right.now.rows mine theirs c.args.limits.entries mine_are c.in_ok-theirs.ensures.entries
    (rw c.entries.ensures.value at (rw same_others at (rw same at (c.in_ok-grid.ensures.many is))))

pub returns-clause-boxes : goal.returns-clause-boxes
returns-clause-boxes c =
    let family = c.args.family in
    let width = width_of family in
    let left = family_rows family c.args.left.now.rows in
    let right = family_rows family c.args.right.now.rows in
    let mine = packed_entries left c.in_ok-mine.mine.items in
    let theirs = packed_entries right c.in_ok-theirs.theirs.items in
    let same = c.of-rows.ensures ∙ ap (packed_entries left) c.as_slice.ensures.value in
    let same_others = c.of-others.ensures ∙ ap (packed_entries right) c.as_slice-2.ensures.value in
    IfSome_then c.in_ok-grid.grid c.in_ok-grid.ensures.boxes (λ grid are.
    let there = subst (λ (es : List (Entry PackedValue)).
    AreDifferences width (answers_in family es) (answers_in family (packed_entries (rows_left c.of-others.result.rows) c.of-others.result.values.now)) grid.boxes) same are in
    record {
      mine = mine;
      theirs = theirs;
      mine_are = entries_still c.family_values.new.values.list.items c.family_values-2.new.values.list.items c.in_ok-theirs.ensures.keeps family c.args.left.now.rows mine c.in_ok-mine.ensures.entries;
      theirs_are = c.in_ok-theirs.ensures.entries;
      boxes_are = subst (λ (es : List (Entry PackedValue)). AreDifferences width (answers_in family mine) (answers_in family es) grid.boxes) same_others there;
    })
