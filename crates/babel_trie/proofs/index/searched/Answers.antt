-- A free slot ends the search, a slot with another number is passed, and behind the last none is left.
use Rattle.std.proofs.Common.{◌≡◌, ◌<◌, ◌≤◌, length, get_or, Some, subst, arith}
use Rattle.std.proofs.lemmas.List.{get_or_past}
use Rattle.std.specs.List.{slice_get}
use Rattle.babel_trie.specs.declared.table.NodeNumber.{NodeNumber}
use Rattle.babel_trie.proofs.IndexLaws.{free_first, free_later, none_among, none_at}
use Rattle.babel_trie.proofs.index.searched.Goals as goal

pub returns-then-slot-eq0-clause-free : goal.returns-then-slot-eq0-clause-free
returns-then-slot-eq0-clause-free g c = λ _.
    let slots = c.args.slots.now in
    let at = c.loop-left.at in
    let left = c.loop-left.left in
    let free : get_or slots at 0 ≡ 0 = omega (arith, c.if-slot-eq0.true) in (
      λ full. full at (c.loop-left.invariant.1 at (free_first slots left at (omega (arith, c.loop-left-test.true)) (omega (arith, c.if-at-slots.true)) free)),
      c.loop-left.invariant.0 (none_at slots c.args.list.now c.args.element.now c.args.mark left at (λ _. free)),
    )

pub loop-left-preserved : goal.loop-left-preserved
loop-left-preserved g c =
    let slots = c.args.slots.now in
    let at = c.loop-left.at in
    let left = c.loop-left.left in
    let some : 0 < left = omega (arith, c.loop-left-test.true) in
    let taken : 0 < get_or slots at 0 = omega (arith, c.if-slot-eq0.false) in (
      λ later. c.loop-left.invariant.0 (none_among slots c.args.list.now c.args.element.now c.args.mark left at some c.in_default.ensures.none later),
      λ place free. c.loop-left.invariant.1 place (free_later slots left at place some taken free),
    )

pub returns-else-at-slots-clause-full : goal.returns-else-at-slots-clause-full
returns-else-at-slots-clause-full g c = λ _.
    let slots = c.args.slots.now in
    let at = c.loop-left.at in
    let far : length slots ≤ at = omega (arith, c.if-at-slots.false) in
    c.loop-left.invariant.0 (none_at slots c.args.list.now c.args.element.now c.args.mark c.loop-left.left at (λ _. get_or_past slots at 0 far))

pub loop-left-init : goal.loop-left-init
loop-left-init g c = (λ none. none, λ place free. free)

pub returns-in-Some-clause-number : goal.returns-in-Some-clause-number
returns-in-Some-clause-number g c n is =
    let e : c.in-Some.number ≡ n = cc in
    subst (λ (m : NodeNumber). slice_get c.args.list.now m.0 ≡ Some c.args.element.now) e c.in-Some.ensures.some

pub returns-after-loop-left-clause-full : goal.returns-after-loop-left-clause-full
returns-after-loop-left-clause-full g c = λ _.
    c.loop-left.invariant.0 (none_at c.args.slots.now c.args.list.now c.args.element.now c.args.mark c.loop-left.left c.loop-left.at (λ some. absurd (omega (arith, some, c.loop-left-test.false))))
