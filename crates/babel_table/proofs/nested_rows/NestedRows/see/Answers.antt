-- The keys stay.
use Rattle.std.proofs.Common.{◌≡◌, ℕ, length, List, ◌++◌, take, drop, sym, ap, ◌∙◌, arith}
use Rattle.std.proofs.lemmas.List.{length-map}
use Rattle.std.proofs.Math.Seq.{take-append_seam}
use Rattle.babel_tlv.specs.declared.view.View.{View}
use Rattle.babel_tlv.specs.Pair.{Pair}
use Rattle.babel_table.specs.Seen.{seen_row, seen_rows}
use Rattle.babel_table.proofs.SeenLaws.{seen_keys}
use Rattle.babel_table.proofs.nested_rows.NestedRows.see.Goals as goal

-- all rows of a vector were changed
whole : (view : View) (rows now was : List Pair) (len : ℕ) → now ≡ seen_rows view was → was ≡ rows → length was ≡ len
    → take len (now ++ drop (length now) rows) ≡ seen_rows view rows
whole view rows now was len now_is was_is long =
    let same : len ≡ length now = sym long ∙ sym (length-map was (seen_row view)) ∙ ap length (sym now_is) in
    ap (λ (n : ℕ). take n (now ++ drop (length now) rows)) same ∙ take-append_seam now (drop (length now) rows) ∙ now_is ∙ ap (seen_rows view) was_is

pub invariant_of-self : goal.invariant_of-self
invariant_of-self g c =
    let rows = c.self.inside.rows.items in
    let same = seen_keys c.args.view rows in
    rw (whole c.args.view rows c.see_rows.new.rows c.deref_mut.result.now _ c.see_rows.ensures c.deref_mut.ensures.value c.deref_mut.ensures.len) (
      rw same c.self.invariant.0,
      c.self.invariant.1 ∙ sym (length-map rows (seen_row c.args.view)),
      omega (arith, c.self.invariant.2, length-map rows (seen_row c.args.view)),
    )

pub returns : goal.returns
returns g c =
    whole c.args.view c.self.inside.rows.items c.see_rows.new.rows c.deref_mut.result.now _ c.see_rows.ensures c.deref_mut.ensures.value c.deref_mut.ensures.len
    ∙ ap (seen_rows c.args.view) c.self.view_is
