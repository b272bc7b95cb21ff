-- What stands for a key is what its row has.
use Rattle.std.proofs.Common.{◌≡◌, ◌<◌, ◌∙◌, None, ap, subst, sym}
use Rattle.std.specs.Option.{is_some}
use Rattle.std.specs.Map.{keys_of}
use Rattle.babel_table.specs.Said.{IsPlace}
use Rattle.babel_table.proofs.SaidLaws.{found, inside_of, stands-here, stands-nowhere}
use Rattle.babel_table.proofs.family_rows.FamilyRows.has.Goals as goal

pub find-requires : goal.find-requires
find-requires g c = rw c.deref.ensures.value c.self.invariant.indexed

pub index-requires : goal.index-requires
index-requires g c = subst (λ n. c.in-Some.place < n) c.deref.ensures.len (inside_of c.of-key.result c.deref.result.now c.in-Some.place c.in-Some.ensures)

pub returns-in-Some : goal.returns-in-Some
returns-in-Some g c =
    let k = c.of-key.result in
    let place : IsPlace (keys_of c.self.inside.rows.items) k c.in-Some.place = subst (λ ws. IsPlace (keys_of ws) k c.in-Some.place) c.deref.ensures.value c.in-Some.ensures in
    let here = stands-here c.self.inside.count c.self.inside.rows.items c.self.inside.rising c.self.inside.places c.self.invariant k c.in-Some.place place c.index.result.now in
    rw (← c.self.view_is, ← c.of-key.ensures) (c.is_some.ensures ∙ ap (λ row. is_some row.1) c.index.ensures ∙ sym (ap is_some here))

pub returns-in-None : goal.returns-in-None
returns-in-None g c =
    let k = c.of-key.result in
    let none : found k c.self.inside.rows.items ≡ None = subst (λ ws. found k ws ≡ None) c.deref.ensures.value c.in-None.ensures in
    rw (← c.self.view_is, ← c.of-key.ensures)
    (sym (ap is_some (stands-nowhere c.self.inside.count c.self.inside.rows.items c.self.inside.rising c.self.inside.places c.self.invariant k none)))
