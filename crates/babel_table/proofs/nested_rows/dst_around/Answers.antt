-- The row before leads to the same destination, so the rows around it are those around the next.
use Rattle.std.proofs.Common.{◌≡◌, ◌-◌, ◌<◌, length, true, sym, ◌∙◌, ap, arith, rules}
use Rattle.std.specs.Map.{keys_of}
use Rattle.std.specs.Ordering.{eq_by_cmp}
use Rattle.std.proofs.lemmas.Map.Entries.{length-keys_of}
use Rattle.babel_prefix.specs.Order.{prefix_cmp}
use Rattle.babel_tlv.specs.Route.{RouteKey}
use Rattle.babel_table.specs.declared.nested_rows.Around.{Around}
use Rattle.babel_table.proofs.NestedLaws.{key_at, same_around, same_of}
use Rattle.babel_table.proofs.nested_rows.dst_around.Goals as goal

pub returns-then-eq-clause-none : goal.returns-then-eq-clause-none
returns-then-eq-clause-none g c =
    let rows = c.args.rows.now in
    let place = c.args.place - 1 in
    let some : 0 < c.args.place = c.if-place-gt0.true in
    let inside : place < length c.args.around.now = omega (arith, c.requires.next) in
    let row_in : place < length rows = omega (arith, c.requires.nested.short, length-keys_of rows) in
    let a : Around = record { dst = 0; src = 0 } in
    let equal : eq_by_cmp prefix_cmp c.dst.result c.dst-then-place-gt0.result ≡ true = search rules in
    let same = sym c.dst.ensures ∙ same_of _ _ equal ∙ c.dst-then-place-gt0.ensures in
    let at = key_at rows place c.index-rows-place.result row_in in
    λ k d low high has.
    same_around (keys_of rows) c.args.around.now place c.args.key.now.dst a c.requires.nested inside (λ e. ap (λ (l : RouteKey). l.dst) (at e) ∙ same)
    k d low (omega (arith, high)) has
