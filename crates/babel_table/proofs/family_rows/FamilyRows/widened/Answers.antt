-- What is not retracted is copied, and sorted by its keys.
use Rattle.std.proofs.Common.{◌≡◌, ◌∙◌, ap, subst, sym}
use Rattle.std.specs.List.{filter}
use Rattle.std.specs.Map.{keys_of}
use Rattle.babel_table.specs.Said.{standing, AreDistinct}
use Rattle.babel_table.proofs.ListLaws.{whole-said, said-next, skipped-next}
use Rattle.babel_table.proofs.SaidLaws.{is_said, distinct-filter, standing-filter, standing-permuted, counted-sorted}
use Rattle.babel_table.proofs.family_rows.FamilyRows.widened.Goals.{in-Some+in_ok-push, in_default}
use Rattle.babel_table.proofs.family_rows.FamilyRows.widened.Goals as goal

pub loop-key-preserved : goal.loop-key-preserved
loop-key-preserved g c =
    let items = c.deref-key-items.result.now in
    let rows = c.loop-key.rows.items in
    let word = c.loop-key-item.result in
    elim c.match-said.branch [
      | in-Some+in_ok-push w ↦
          rw (w.rows-is, w.in_ok-push.ensures.items, w.copied.ensures, w.widened.ensures)
          (said-next items rows c.loop-key.key-index c.loop-key.invariant word c.loop-key-test.true c.loop-key-item.is w.in-Some.stored w.in-Some.is)
      | in_default w ↦
          rw w.rows-is (skipped-next items rows c.loop-key.key-index c.loop-key.invariant word c.loop-key-test.true c.loop-key-item.is w.in_default.is)
    ]

pub sort-requires : goal.sort-requires
sort-requires g c =
    let all = c.self.inside.rows.items in
    let left = subst (λ ws. c.loop-key.rows.items ≡ filter is_said ws) c.deref-key-items.ensures.value
    (whole-said c.deref-key-items.result.now c.loop-key.rows.items c.loop-key.key-index c.loop-key.invariant c.loop-key-test.false) in
    rw left (distinct-filter all c.self.invariant.indexed.distinct)

pub invariant_of-result : goal.invariant_of-result
invariant_of-result g c =
    let all = c.self.inside.rows.items in
    let left = subst (λ ws. c.loop-key.rows.items ≡ filter is_said ws) c.deref-key-items.ensures.value
    (whole-said c.deref-key-items.result.now c.loop-key.rows.items c.loop-key.key-index c.loop-key.invariant c.loop-key-test.false) in
    let distinct = subst (λ ws. AreDistinct (keys_of ws)) (sym left) (distinct-filter all c.self.invariant.indexed.distinct) in
    let same = standing-permuted c.sort.new.rows.items _ c.sort.ensures.same distinct in
    rw (c.len-rising.ensures ∙ c.sort.new.rows.ok.0)
    (counted-sorted c.self.inside.count all c.sort.new.rows.items c.self.inside.rising c.self.inside.places _ c.self.invariant c.sort.ensures.rising (same ∙ ap standing left))

pub returns : goal.returns
returns g c =
    let all = c.self.inside.rows.items in
    let left = subst (λ ws. c.loop-key.rows.items ≡ filter is_said ws) c.deref-key-items.ensures.value
    (whole-said c.deref-key-items.result.now c.loop-key.rows.items c.loop-key.key-index c.loop-key.invariant c.loop-key-test.false) in
    let distinct = subst (λ ws. AreDistinct (keys_of ws)) (sym left) (distinct-filter all c.self.invariant.indexed.distinct) in
    let same = standing-permuted c.sort.new.rows.items _ c.sort.ensures.same distinct in
    same ∙ ap standing left ∙ standing-filter all c.self.invariant.indexed.distinct ∙ c.self.view_is
