-- What is free among the slots that are left is free among all, and else none is.
use Rattle.std.proofs.Common.{ℕ}
use Rattle.babel_trie.specs.Index.{IsFreeAmong, window}
use Rattle.babel_trie.proofs.index.free_place.Given as goal

abbrev pub invariant-loop-left : goal.invariant-loop-left
invariant-loop-left l =
    ((place : ℕ) → IsFreeAmong l.slots l.left l.at place → IsFreeAmong l.slots window l.first place)
    × ((place : ℕ) → IsFreeAmong l.slots window l.first place → IsFreeAmong l.slots l.left l.at place)

abbrev pub decreases-loop-left : goal.decreases-loop-left
decreases-loop-left l = l.left
