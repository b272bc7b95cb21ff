-- A row that is there is spelled out.
use Rattle.std.proofs.Common.{◌≡◌, List, Some, length, refl, sym, ltb-true}
use Rattle.std.specs.List.{slice_get}
use Rattle.std.proofs.lemmas.Option.{slice_get_read}
use Rattle.babel_tlv.specs.Pair.{Pair}
use Rattle.babel_table.proofs.nested_rows.NestedRows.row_at.Goals as goal

pub returns : goal.returns
returns g c =
    let rows : List Pair = c.self.inside.rows.items in
    let row : Pair = c.in_ok-key.field-0.now in
    let place = c.args.place.index in
    let look = rw c.deref.ensures.value at c.in_ok-key.ensures.lookup in
    let at : slice_get rows place ≡ Some row = slice_get_read rows (length rows) place row refl (ltb-true place (length rows) (sym look.0)) look.1 in
    rw (c.key.ensures.value, c.held.ensures.value, ← c.self.view_is) (sym at)
