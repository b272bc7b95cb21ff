-- A free slot is the first, a taken one is passed, and behind the last none is left.
use Rattle.std.proofs.Common.{◌<◌, get_or, arith}
use Rattle.babel_trie.proofs.IndexLaws.{free_first, free_later, free_behind, full_at_end}
use Rattle.babel_trie.proofs.index.free_place.Goals as goal

pub returns-then-slots-at-eq0-clause-some : goal.returns-then-slots-at-eq0-clause-some
returns-then-slots-at-eq0-clause-some c =
    c.loop-left.invariant.0 c.loop-left.at
    (free_first c.args.slots.now c.loop-left.left c.loop-left.at (omega (arith, c.loop-left-test.true)) (omega (arith, c.if-at-slots.true)) (omega (arith, c.if-slots-at-eq0.true)))

pub returns-else-at-slots-clause-none : goal.returns-else-at-slots-clause-none
returns-else-at-slots-clause-none c = λ place free.
    full_at_end c.args.slots.now c.loop-left.left c.loop-left.at (λ _. omega (arith, c.if-at-slots.false)) place
    (c.loop-left.invariant.1 place free)

pub returns-after-loop-left-clause-none : goal.returns-after-loop-left-clause-none
returns-after-loop-left-clause-none c = λ place free.
    full_at_end c.args.slots.now c.loop-left.left c.loop-left.at (λ some. absurd (omega (arith, some, c.loop-left-test.false))) place
    (c.loop-left.invariant.1 place free)

pub loop-left-preserved : goal.loop-left-preserved
loop-left-preserved c =
    let slots = c.args.slots.now in
    let at = c.loop-left.at in
    let left = c.loop-left.left in
    let some : 0 < left = omega (arith, c.loop-left-test.true) in
    let taken : 0 < get_or slots at 0 = omega (arith, c.if-slots-at-eq0.false) in (
      λ place free. c.loop-left.invariant.0 place (free_later slots left at place some taken free),
      λ place free. free_behind slots left at place some taken (c.loop-left.invariant.1 place free),
    )
