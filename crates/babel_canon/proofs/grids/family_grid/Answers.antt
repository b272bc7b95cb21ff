use Rattle.std.proofs.Common.{List, ap, ◌∙◌, subst, sym}
use Rattle.std.proofs.lemmas.Option.{IfSome_then}
use Rattle.std.specs.List.{All}
use Rattle.babel_prefix.specs.Width.{width_of}
use Rattle.babel_prefix.specs.Entries.{Entry, answers_in}
use Rattle.babel_prefix.specs.BestRow.{AreOfFamily, HasDistinctPrefixes}
use Rattle.babel_trie.specs.Boxes.{IsBoxList}
use Rattle.babel_table.specs.TableRows.{family_rows}
use Rattle.babel_canon.specs.declared.values.PackedValue.{PackedValue}
use Rattle.babel_canon.specs.Values.{packed_entries}
use Rattle.babel_canon.proofs.ManyBoxes.{more_by_value}
use Rattle.babel_canon.proofs.ValueLists.{distinct, numbered_boxes}
use Rattle.babel_canon.proofs.grids.family_grid.Goals as goal

pub within-requires-clause-family : goal.within-requires-clause-family
within-requires-clause-family c =
    let same = c.of-rows.ensures ∙ ap (packed_entries (family_rows c.args.family c.args.table.now.rows)) c.as_slice.ensures.value in
    subst (λ (es : List (Entry PackedValue)). All (AreOfFamily c.args.family) es) (sym same) c.in_ok-packed.ensures.entries.of_family

pub within-requires-clause-prefixes : goal.within-requires-clause-prefixes
within-requires-clause-prefixes c =
    let same = c.of-rows.ensures ∙ ap (packed_entries (family_rows c.args.family c.args.table.now.rows)) c.as_slice.ensures.value in
    subst HasDistinctPrefixes (sym same) c.in_ok-packed.ensures.prefixes

pub returns-clause-many : goal.returns-clause-many
returns-clause-many c is =
    let values = c.family_values.new.values in
    let mine = family_rows c.args.family c.args.table.now.rows in
    let entries = packed_entries mine c.in_ok-packed.packed.items in
    let same = c.of-rows.ensures ∙ ap (packed_entries mine) c.as_slice.ensures.value in
    more_by_value values.list.items
    (distinct values.list.items values.numbers c.in_ok-packed.ensures.numbered) c.args.family c.args.table.now.rows entries c.args.limits.entries c.in_ok-packed.ensures.entries
    (rw c.entries.ensures.value at (rw same at (c.in_ok-grid.ensures.many is)))

pub returns-clause-boxes : goal.returns-clause-boxes
returns-clause-boxes c =
    let values = c.family_values.new.values in
    let mine = family_rows c.args.family c.args.table.now.rows in
    let entries = packed_entries mine c.in_ok-packed.packed.items in
    let same = c.of-rows.ensures ∙ ap (packed_entries mine) c.as_slice.ensures.value in
    IfSome_then c.in_ok-grid.grid c.in_ok-grid.ensures.boxes (λ grid are.
    numbered_boxes values.list.items (distinct values.list.items values.numbers c.in_ok-packed.ensures.numbered) c.args.family c.args.table.now.rows entries grid.boxes c.in_ok-packed.ensures.entries
    (subst (λ (es : List (Entry PackedValue)). IsBoxList (width_of c.args.family) (answers_in c.args.family es) grid.boxes) same are))
