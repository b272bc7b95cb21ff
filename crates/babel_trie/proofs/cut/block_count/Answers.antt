-- One block, or two parts.
use Rattle.std.proofs.Common.{arith}
use Rattle.babel_trie.proofs.Ones.{one_address, one_whole, ones_counted}
use Rattle.babel_trie.proofs.cut.block_count.Goals as goal
use Rattle.babel_trie.proofs.cut.block_count.Goals.{else-below-half-via-then-below-half+else-above-half, else-below-half-via-else-below-half}

pub returns-then-from-last : goal.returns-then-from-last
returns-then-from-last c w last_in = one_address w c.args.from c.args.last c.if-from-last.true last_in

pub returns-then-above-half : goal.returns-then-above-half
returns-then-above-half c w last_in =
    let s = c.split-bit.ensures in
    one_whole w c.args.from c.args.last c.split-bit.result s.few (omega arith) last_in s.split c.if-below-half.true c.if-above-half.true

pub returns : goal.returns
returns c w last_in =
    let s = c.split-bit.ensures in
    ones_counted w c.args.from c.args.last c.split-bit.result s.few (omega arith) last_in s.split
    (λ x y. elim c.else-below-half.branch [
      | else-below-half-via-then-below-half+else-above-half u ↦ u.if-above-half.false y
      | else-below-half-via-else-below-half u ↦ u.if-below-half.false x
    ])
