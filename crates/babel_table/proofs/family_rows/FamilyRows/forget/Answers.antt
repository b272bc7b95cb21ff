-- The key's row says that it was retracted.
use Rattle.std.proofs.Common.{◌≡◌, ◌<◌, None, sym, subst, arith}
use Rattle.std.specs.Map.{keys_of}
use Rattle.babel_table.specs.Said.{IsPlace}
use Rattle.babel_table.proofs.SaidLaws.{found, key-read, inside_of, standing-set, fewer-set, counted-unset, stands-nowhere, unsaid-nothing}
use Rattle.babel_table.proofs.family_rows.FamilyRows.forget.Goals as goal

pub find-requires : goal.find-requires
find-requires g c = rw c.deref.ensures.value c.self.invariant.indexed

pub index-requires : goal.index-requires
index-requires g c = subst (λ n. c.in-Some.place < n) c.deref.ensures.len (inside_of c.of-key.result c.deref.result.now c.in-Some.place c.in-Some.ensures)

pub index_mut-requires : goal.index_mut-requires
index_mut-requires g c = subst (λ n. c.in-Some.place < n) c.deref.ensures.len (inside_of c.of-key.result c.deref.result.now c.in-Some.place c.in-Some.ensures)

pub overflow_add-self : goal.overflow_add-self
overflow_add-self g c = let inside = inside_of c.of-key.result c.deref.result.now c.in-Some.place c.in-Some.ensures in omega (arith, inside)

pub overflow_sub-self : goal.overflow_sub-self
overflow_sub-self g c =
    let k = c.of-key.result in
    let place : IsPlace (keys_of c.self.inside.rows.items) k c.in-Some.place = subst (λ ws. IsPlace (keys_of ws) k c.in-Some.place) c.deref.ensures.value c.in-Some.ensures in
    fewer-set c.self.inside.count c.self.inside.rows.items c.self.inside.rising c.self.inside.places c.self.invariant k c.in-Some.place place c.index.result.now c.is_some-was.result c.from.result
    c.index.ensures c.is_some-was.ensures c.from.ensures

pub invariant_of-self : goal.invariant_of-self
invariant_of-self g c =
    let k = c.of-key.result in
    let place : IsPlace (keys_of c.self.inside.rows.items) k c.in-Some.place = subst (λ ws. IsPlace (keys_of ws) k c.in-Some.place) c.deref.ensures.value c.in-Some.ensures in
    rw (key-read k c.self.inside.rows.items c.in-Some.place c.index_mut.result.now place c.index_mut.ensures.value)
    (counted-unset c.self.inside.count c.self.inside.rows.items c.self.inside.rising c.self.inside.places c.self.invariant k c.in-Some.place place c.index.result.now c.is_some-was.result c.from.result
    c.index.ensures c.is_some-was.ensures c.from.ensures)

pub returns-in-Some : goal.returns-in-Some
returns-in-Some g c =
    let k = c.of-key.result in
    let place : IsPlace (keys_of c.self.inside.rows.items) k c.in-Some.place = subst (λ ws. IsPlace (keys_of ws) k c.in-Some.place) c.deref.ensures.value c.in-Some.ensures in
    rw (key-read k c.self.inside.rows.items c.in-Some.place c.index_mut.result.now place c.index_mut.ensures.value, ← c.self.view_is, ← c.of-key.ensures)
    (standing-set c.self.inside.count c.self.inside.rows.items c.self.inside.rising c.self.inside.places c.self.invariant k c.in-Some.place place c.index.result.now None)

pub returns-in_default : goal.returns-in_default
returns-in_default g c =
    let k = c.of-key.result in
    let none : found k c.self.inside.rows.items ≡ None = subst (λ ws. found k ws ≡ None) c.deref.ensures.value c.in_default.ensures in
    rw (← c.self.view_is, ← c.of-key.ensures)
    (sym (unsaid-nothing k _ (stands-nowhere c.self.inside.count c.self.inside.rows.items c.self.inside.rising c.self.inside.places c.self.invariant k none)))
