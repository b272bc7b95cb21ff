-- One more row, and how far those around it reach.
use Rattle.std.proofs.Common.{◌<◌, ◌∷◌, [], length, length-append, refl, sym, ap, subst, arith}
use Rattle.std.specs.Map.{keys_of}
use Rattle.std.proofs.lemmas.Map.Entries.{length-keys_of}
use Rattle.babel_table.specs.Nested.{IsNestedAt}
use Rattle.babel_table.proofs.NestedLaws.{nested-none, nested-push}
use Rattle.babel_table.proofs.nested_rows.NestedRows.of.Goals as goal

pub loop-place-init : goal.loop-place-init
loop-place-init g c = rw c.in_ok-around.ensures.items (record { nested = nested-none g.W.Word.family c.args.rows.items c.requires.rows c.requires.family; long = refl })

pub loop-place-preserved : goal.loop-place-preserved
loop-place-preserved g c =
    let rows = c.args.rows.items in
    let around = c.loop-place.around.items in
    let next = c.around_row-next.result in
    let here = subst (λ rs. IsNestedAt (keys_of rs) c.loop-place.place next) c.deref.ensures.value c.around_row-next.ensures in
    let at = subst (λ n. IsNestedAt (keys_of rows) n next) (sym c.loop-place.invariant.long) here in
    let room : length around < length (keys_of rows) =
    omega (arith, c.loop-place-test.true, c.loop-place.invariant.long, c.len-place-end.ensures, c.deref.ensures.len, ap length c.deref.ensures.value, length-keys_of rows) in
    rw c.in_ok-push.ensures.items (record {
      nested = nested-push (keys_of rows) around next c.loop-place.invariant.nested room at;
      long = omega (arith, c.loop-place.invariant.long, length-append around (next ∷ []));
    })
