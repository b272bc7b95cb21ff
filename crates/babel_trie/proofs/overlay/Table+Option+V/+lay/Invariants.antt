-- A half has one bit fewer; laying rows over a block comes after laying them around it, and before
-- laying them over both halves.
use Rattle.std.proofs.Common.{◌+◌, ◌-◌, ◌*◌}
use Rattle.babel_trie.proofs.overlay.Table+Option+V.+lay.Given as goal

abbrev pub decreases-lay : goal.decreases-lay
decreases-lay g l = 3 * l.bits

abbrev pub decreases-lay_halves : goal.decreases-lay_halves
decreases-lay_halves g l = 3 * l.bits - 1

abbrev pub decreases-lay_inside : goal.decreases-lay_inside
decreases-lay_inside g l = 3 * l.narrowed.now.block.bits + 1
