-- A key that is listed is found, since its slot or the map is come to.
use Rattle.std.proofs.Common.{◌≡◌, ℕ, ◌+◌, ◌-◌, ◌%◌, ◌<◌, ◌∙◌, None, Some, length, get_or, sym, ap, subst, arith}
use Rattle.std.specs.BTreeMap.{is_at}
use Rattle.std.specs.Map.{keys_of, lookup}
use Rattle.babel_tlv.specs.Keys.{key_cmp}
use Rattle.babel_table.specs.Said.{IsPlace, Places, start_of, tag_of}
use Rattle.babel_table.proofs.PlaceLaws.{IsPassed, below_more, holds_at, start_is, ends_at_free, ends_at_map, ends_at_other}
use Rattle.babel_table.proofs.places.Places.find.Goals.{else-other-tag-via-then-other-tag+else-has_key, else-other-tag-via-else-other-tag}
use Rattle.babel_table.proofs.places.Places.find.Goals as goal

pub returns-then-len-le-WIDTH : goal.returns-then-len-le-WIDTH
returns-then-len-le-WIDTH g c = rw (← c.self.view_is) (λ place at listed. omega (arith, listed.room))

pub loop-step-init : goal.loop-step-init
loop-step-init g c = λ before lt d. absurd (omega (arith, lt))

pub overflow_add-start : goal.overflow_add-start
overflow_add-start g c = omega arith

pub index-requires : goal.index-requires
index-requires g c = omega arith

pub returns-then-place : goal.returns-then-place
returns-then-place g c =
    let places = c.args.self.now in
    let keys = keys_of c.args.rows.now in
    let len : c.len-2.result ≡ length places.slots = c.len-2.ensures ∙ c.self.inside.slots.ok.0 ∙ ap (λ (p : Places). length p.slots) c.self.view_is in
    let start : start_of places c.args.key.now ≡ c.tag-tag.result % (c.len-2.result - 8) =
    start_is places c.args.key.now c.tag-tag.result c.len-2.result (c.tag-tag.ensures ∙ ap (λ (p : Places). tag_of p.seed c.args.key.now) c.self.view_is) len in
    let at : ℕ = c.tag-tag.result % (c.len-2.result - 8) + c.loop-step.step in
    let inside : at < length places.slots = omega (arith, len) in
    let slot : c.index.result.now ≡ get_or places.slots at c.index.result.now = c.index.ensures ∙ ap (λ (p : Places). get_or p.slots at c.index.result.now) c.self.view_is in
    ends_at_free keys places c.args.key.now c.loop-step.step
    (λ before lt. subst (λ n. IsPassed keys places c.args.key.now (n + before)) (sym start) (c.loop-step.invariant before lt)) c.loop-step-test.true
    (subst (λ n. (d : ℕ × ℕ) → (get_or places.slots (n + c.loop-step.step) d).1 ≡ 4294967295) (sym start)
    (holds_at (λ s. s.1 ≡ 4294967295) places.slots at c.index.result.now c.index.result.now inside slot c.if-place.true))

pub returns-then-has_key : goal.returns-then-has_key
returns-then-has_key g c = c.has_key.ensures.0 c.if-has_key.true

pub loop-step-smaller : goal.loop-step-smaller
loop-step-smaller g c = omega arith

pub loop-step-preserved : goal.loop-step-preserved
loop-step-preserved g c =
    let places = c.args.self.now in
    let keys = keys_of c.args.rows.now in
    let key = c.args.key.now in
    let len : c.len-2.result ≡ length places.slots = c.len-2.ensures ∙ c.self.inside.slots.ok.0 ∙ ap (λ (p : Places). length p.slots) c.self.view_is in
    let start : ℕ = c.tag-tag.result % (c.len-2.result - 8) in
    let at : ℕ = start + c.loop-step.step in
    let inside : at < length places.slots = omega (arith, len) in
    let slot : c.index.result.now ≡ get_or places.slots at c.index.result.now = c.index.ensures ∙ ap (λ (p : Places). get_or p.slots at c.index.result.now) c.self.view_is in
    let taken : c.index.result.now.1 < 4294967295 = omega arith in
    below_more (λ m. IsPassed keys places key (start + m)) c.loop-step.step c.loop-step.invariant
    (holds_at (λ s. (s.1 < 4294967295) × ((place : ℕ) → s ≡ (tag_of places.seed key, place) → IsPlace keys key place → ⊥)) places.slots at c.index.result.now c.index.result.now inside slot (
      taken,
      λ place is there. elim c.else-other-tag.branch [
        | else-other-tag-via-then-other-tag+else-has_key w ↦
            let same : place ≡ c.index.result.now.1 = sym (ap (λ (s : ℕ × ℕ). s.1) is) in
            let yes = w.has_key.ensures.1 (subst (λ n. IsPlace keys key n) same there) in
            let no = w.if-has_key.false in
            absurd cc
        | else-other-tag-via-else-other-tag w ↦ w.if-other-tag.false (ap (λ (s : ℕ × ℕ). s.0) is ∙ sym (c.tag-tag.ensures ∙ ap (λ (p : Places). tag_of p.seed key) c.self.view_is))
      ],
    ))

pub returns-in_err-place : goal.returns-in_err-place
returns-in_err-place g c =
    let places = c.args.self.now in
    let keys = keys_of c.args.rows.now in
    let len : c.len-2.result ≡ length places.slots = c.len-2.ensures ∙ c.self.inside.slots.ok.0 ∙ ap (λ (p : Places). length p.slots) c.self.view_is in
    let start : start_of places c.args.key.now ≡ c.tag-tag.result % (c.len-2.result - 8) =
    start_is places c.args.key.now c.tag-tag.result c.len-2.result (c.tag-tag.ensures ∙ ap (λ (p : Places). tag_of p.seed c.args.key.now) c.self.view_is) len in
    let none : lookup (is_at (key_cmp c.args.key.now)) places.overflow ≡ None =
    ap (λ (p : Places). lookup (is_at (key_cmp c.args.key.now)) p.overflow) (sym c.self.view_is) ∙ sym c.in_err-place.ensures.value in
    rw c.from_residual.ensures
    (ends_at_map keys places c.args.key.now (λ before lt. subst (λ n. IsPassed keys places c.args.key.now (n + before)) (sym start) (c.loop-step.invariant before (omega (arith, lt)))) none)

pub returns-then-has_key-2 : goal.returns-then-has_key-2
returns-then-has_key-2 g c = c.has_key-2.ensures.0 c.if-has_key-2.true

pub returns-else-has_key-2 : goal.returns-else-has_key-2
returns-else-has_key-2 g c =
    let places = c.args.self.now in
    let keys = keys_of c.args.rows.now in
    let len : c.len-2.result ≡ length places.slots = c.len-2.ensures ∙ c.self.inside.slots.ok.0 ∙ ap (λ (p : Places). length p.slots) c.self.view_is in
    let start : start_of places c.args.key.now ≡ c.tag-tag.result % (c.len-2.result - 8) =
    start_is places c.args.key.now c.tag-tag.result c.len-2.result (c.tag-tag.ensures ∙ ap (λ (p : Places). tag_of p.seed c.args.key.now) c.self.view_is) len in
    let some : lookup (is_at (key_cmp c.args.key.now)) places.overflow ≡ Some c.in_ok-place.field-0.now =
    ap (λ (p : Places). lookup (is_at (key_cmp c.args.key.now)) p.overflow) (sym c.self.view_is) ∙ sym c.in_ok-place.ensures.value in
    ends_at_other keys places c.args.key.now c.in_ok-place.field-0.now
    (λ before lt. subst (λ n. IsPassed keys places c.args.key.now (n + before)) (sym start) (c.loop-step.invariant before (omega (arith, lt)))) some
    (λ there. let yes = c.has_key-2.ensures.1 there in let no = c.if-has_key-2.false in absurd cc)
