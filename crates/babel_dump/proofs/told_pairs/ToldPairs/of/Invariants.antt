-- What is told of the pairs so far was made.
use Rattle.std.proofs.Common.{take}
use Rattle.babel_dump.proofs.PairsMade.{Making}
use Rattle.babel_dump.proofs.told_pairs.ToldPairs.of.Given as goal

abbrev pub invariant-loop-fellows : goal.invariant-loop-fellows
invariant-loop-fellows l =
    Making l.pairs l.read l.other_read l.fn.tables.entries l.fn.other_tables.entries (take l.fellows-index l.fellows-items) l.left.left.entries l.left.right.entries l.told
