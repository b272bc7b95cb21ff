-- What is kept of the key stands in its row, or in a new one behind the others.
use Rattle.std.proofs.Common.{◌≡◌, ◌<◌, ◌∙◌, None, false, length, ap, subst, sym, refl, inl, inr, arith}
use Rattle.std.specs.Option.{is_some}
use Rattle.std.specs.Map.{keys_of}
use Rattle.babel_table.specs.Live.{kept}
use Rattle.babel_table.specs.Said.{IsPlace, AreAbove, AreIndexed}
use Rattle.babel_table.proofs.SaidLaws.{found, key-read, on_err, said-length, one_more, byte_small, inside_of, counted-set, standing-set}
use Rattle.babel_table.proofs.LiveLaws.{absent}
use Rattle.babel_table.proofs.SaidLaws.{stands-here, stands-nowhere, counted_again, counted-front, counted-behind, standing-pushed, whole-rising}
use Rattle.babel_table.proofs.family_rows.FamilyRows.put.Goals as goal
use Rattle.babel_table.proofs.family_rows.FamilyRows.put.Goals.{in-Some-refusal+else-not-was, in_default-refusal, then-self-place+then-is_past+in_ok-push, else-self-place+in_ok-push_placed}

pub find-requires : goal.find-requires
find-requires g c = rw c.deref.ensures.value c.self.invariant.indexed

-- ---- in its row

pub index-requires : goal.index-requires
index-requires g c = subst (λ n. c.in-Some.place < n) c.deref.ensures.len (inside_of c.of-key.result c.deref.result.now c.in-Some.place c.in-Some.ensures)

pub index_mut-requires : goal.index_mut-requires
index_mut-requires g c = subst (λ n. c.in-Some.place < n) c.deref.ensures.len (inside_of c.of-key.result c.deref.result.now c.in-Some.place c.in-Some.ensures)

pub overflow_add-self : goal.overflow_add-self
overflow_add-self g c = let inside = inside_of c.of-key.result c.deref.result.now c.in-Some.place c.in-Some.ensures in omega (arith, inside)

pub overflow_add-self-in-Some : goal.overflow_add-self-in-Some
overflow_add-self-in-Some g c = omega (arith, byte_small _ c.from.result c.from.ensures, c.self.invariant.small)

pub invariant_of-self : goal.invariant_of-self
invariant_of-self g c =
    let k = c.of-key.result in
    let place : IsPlace (keys_of c.self.inside.rows.items) k c.in-Some.place = subst (λ ws. IsPlace (keys_of ws) k c.in-Some.place) c.deref.ensures.value c.in-Some.ensures in
    rw (key-read k c.self.inside.rows.items c.in-Some.place c.index_mut.result.now place c.index_mut.ensures.value)
    (counted-set c.self.inside.count c.self.inside.rows.items c.self.inside.rising c.self.inside.places c.self.invariant k c.in-Some.place place c.index.result.now _ c.is_some-was.result c.from.result
    c.index.ensures c.is_some-was.ensures c.from.ensures (one_more _ _ _ _ _ c.self.invariant c.self.view_is c.requires.few))

pub returns-in-Some-clause-ok : goal.returns-in-Some-clause-ok
returns-in-Some-clause-ok g c =
    let k = c.of-key.result in
    let place : IsPlace (keys_of c.self.inside.rows.items) k c.in-Some.place = subst (λ ws. IsPlace (keys_of ws) k c.in-Some.place) c.deref.ensures.value c.in-Some.ensures in
    rw (key-read k c.self.inside.rows.items c.in-Some.place c.index_mut.result.now place c.index_mut.ensures.value, ← c.self.view_is, ← c.of-key.ensures, ← c.of-held.ensures)
    (standing-set c.self.inside.count c.self.inside.rows.items c.self.inside.rising c.self.inside.places c.self.invariant k c.in-Some.place place c.index.result.now _)

pub returns-in-Some-clause-len : goal.returns-in-Some-clause-len
returns-in-Some-clause-len g c = said-length c.args.key.now (kept c.args.held c.args.mark) c.self.inside.rows.items c.args.self.now _ c.self.view_is (returns-in-Some-clause-ok g c)

-- ---- a refusal, where the key has nothing

pub returns-then-not-was-clause-cause : goal.returns-then-not-was-clause-cause
returns-then-not-was-clause-cause g c =
    let k = c.of-key.result in
    let place : IsPlace (keys_of c.self.inside.rows.items) k c.in-Some.place = subst (λ ws. IsPlace (keys_of ws) k c.in-Some.place) c.deref.ensures.value c.in-Some.ensures in
    let here = stands-here c.self.inside.count c.self.inside.rows.items c.self.inside.rising c.self.inside.places c.self.invariant k c.in-Some.place place c.index.result.now in
    inr (
      c.in-Some-refusal.is,
      rw (← c.self.view_is, ← c.of-key.ensures)
          (absent k _ false (sym c.if-not-was.true ∙ c.is_some-was.ensures ∙ ap (λ row. is_some row.1) c.index.ensures ∙ sym (ap is_some here)) refl),
    )

pub returns-in-Some-refusal-2-clause-cause : goal.returns-in-Some-refusal-2-clause-cause
returns-in-Some-refusal-2-clause-cause g c =
    let k = c.of-key.result in
    let none : found k c.self.inside.rows.items ≡ None = subst (λ ws. found k ws ≡ None) c.deref.ensures.value c.in_default.ensures in
    inr (
      c.in-Some-refusal-2.is,
      rw (← c.self.view_is, ← c.of-key.ensures)
          (stands-nowhere c.self.inside.count c.self.inside.rows.items c.self.inside.rising c.self.inside.places c.self.invariant k none),
    )

pub returns-in-Some-clause-room : goal.returns-in-Some-clause-room
returns-in-Some-clause-room g c =
    let k = c.of-key.result in
    let place : IsPlace (keys_of c.self.inside.rows.items) k c.in-Some.place = subst (λ ws. IsPlace (keys_of ws) k c.in-Some.place) c.deref.ensures.value c.in-Some.ensures in
    let here = stands-here c.self.inside.count c.self.inside.rows.items c.self.inside.rising c.self.inside.places c.self.invariant k c.in-Some.place place c.index.result.now in
    elim c.match-refusal.branch [
      | in-Some-refusal+else-not-was w ↦
          inr (rw (← c.self.view_is, ← c.of-key.ensures) (ap is_some here ∙ sym (ap (λ row. is_some row.1) c.index.ensures) ∙ sym c.is_some-was.ensures ∙ w.if-not-was.false))
      | in_default-refusal w ↦ inl w.in_default-refusal.is
    ]

pub returns-clause-room : goal.returns-clause-room
returns-clause-room g c = inl c.in_default-refusal-2.is

-- ---- in a new row

pub is_past-requires : goal.is_past-requires
is_past-requires g c = rw c.deref-then-self-place.ensures.value (whole-rising _ _ _ c.self.invariant.indexed (c.if-self-place.true ∙ c.len-place.ensures ∙ c.self.inside.rows.ok.0))

pub invariant_of-self-in_err-push : goal.invariant_of-self-in_err-push
invariant_of-self-in_err-push g c = rw c.in_err-push.ensures.items c.self.invariant

pub returns-in_err-push-clause-err : goal.returns-in_err-push-clause-err
returns-in_err-push-clause-err g c = on_err c.from_residual.result _ (rw c.in_err-push.ensures.items c.self.view_is)

pub push_placed-requires-clause-indexed : goal.push_placed-requires-clause-indexed
push_placed-requires-clause-indexed g c = c.self.invariant.indexed

pub push_placed-requires-clause-new : goal.push_placed-requires-clause-new
push_placed-requires-clause-new g c = subst (λ ws. found c.of-key.result ws ≡ None) c.deref.ensures.value c.in_default.ensures

pub invariant_of-self-in_err-push_placed : goal.invariant_of-self-in_err-push_placed
invariant_of-self-in_err-push_placed g c =
    let same = c.in_err-push_placed.ensures.err in
    rw same.0 (counted_again _ _ _ _ _ c.self.invariant (subst (λ ws. AreIndexed (keys_of ws) c.self.inside.rising c.push_placed.new.places) same.0 same.1))

pub returns-in_err-push_placed-clause-err : goal.returns-in_err-push_placed-clause-err
returns-in_err-push_placed-clause-err g c = on_err c.from_residual-in_err-push_placed.result _ (rw c.in_err-push_placed.ensures.err.0 c.self.view_is)

pub overflow_add-self-2 : goal.overflow_add-self-2
overflow_add-self-2 g c = elim c.if-self-place.branch [
  | then-self-place+then-is_past+in_ok-push w ↦ rw w.self-inside-is (omega (arith, c.self.invariant.small))
  | else-self-place+in_ok-push_placed w ↦ rw w.self-inside-is (omega (arith, c.self.invariant.small))
]

pub invariant_of-self-2 : goal.invariant_of-self-2
invariant_of-self-2 g c =
    let k = c.of-key.result in
    let none : found k c.self.inside.rows.items ≡ None = subst (λ ws. found k ws ≡ None) c.deref.ensures.value c.in_default.ensures in
    let few = one_more _ _ _ _ _ c.self.invariant c.self.view_is c.requires.few in
    elim c.if-self-place.branch [
      | then-self-place+then-is_past+in_ok-push w ↦
          let above : AreAbove k c.self.inside.rows.items = subst (λ ws. AreAbove k ws) w.deref-then-self-place.ensures.value (w.is_past.ensures.0 w.if-is_past.true) in
          rw (w.self-inside-is, w.in_ok-push.ensures.items)
          (counted-front c.self.inside.count c.self.inside.rows.items c.self.inside.rising c.self.inside.places c.self.invariant k none _ w.len-self-inside.result
          (w.len-self-inside.ensures ∙ w.push.new.rows.ok.0 ∙ ap length w.in_ok-push.ensures.items) few (w.if-self-place.true ∙ c.len-place.ensures ∙ c.self.inside.rows.ok.0) above)
      | else-self-place+in_ok-push_placed w ↦
          rw (w.self-inside-is, w.in_ok-push_placed.ensures.ok.0)
          (counted-behind c.self.inside.count c.self.inside.rows.items c.self.inside.rising c.self.inside.places c.self.invariant k none _ _ few
          (subst (λ ws. AreIndexed (keys_of ws) c.self.inside.rising w.push_placed.new.places) w.in_ok-push_placed.ensures.ok.0 w.in_ok-push_placed.ensures.ok.1))
    ]

pub returns-clause-ok : goal.returns-clause-ok
returns-clause-ok g c =
    let k = c.of-key.result in
    let none : found k c.self.inside.rows.items ≡ None = subst (λ ws. found k ws ≡ None) c.deref.ensures.value c.in_default.ensures in
    c.compact.ensures ∙ elim c.if-self-place.branch [
      | then-self-place+then-is_past+in_ok-push w ↦
          rw (w.self-inside-is, w.in_ok-push.ensures.items, ← c.self.view_is, ← c.of-key.ensures, ← c.of-held.ensures)
          (standing-pushed c.self.inside.count c.self.inside.rows.items c.self.inside.rising c.self.inside.places c.self.invariant k none _)
      | else-self-place+in_ok-push_placed w ↦
          rw (w.self-inside-is, w.in_ok-push_placed.ensures.ok.0, ← c.self.view_is, ← c.of-key.ensures, ← c.of-held.ensures)
          (standing-pushed c.self.inside.count c.self.inside.rows.items c.self.inside.rising c.self.inside.places c.self.invariant k none _)
    ]

pub returns-clause-len : goal.returns-clause-len
returns-clause-len g c = said-length c.args.key.now (kept c.args.held c.args.mark) c.self.inside.rows.items c.args.self.now _ c.self.view_is (returns-clause-ok g c)
