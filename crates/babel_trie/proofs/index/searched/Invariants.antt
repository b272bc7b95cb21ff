-- What is among the slots that are left, or free there, decides for all of them.
use Rattle.std.proofs.Common.{ℕ}
use Rattle.babel_trie.specs.Index.{IsNotAmong, IsFreeAmong, window}
use Rattle.babel_trie.proofs.index.searched.Given as goal

abbrev pub invariant-loop-left : goal.invariant-loop-left
invariant-loop-left g l =
    (IsNotAmong l.list l.element l.mark l.slots l.left l.at → IsNotAmong l.list l.element l.mark l.slots window l.first)
    × ((place : ℕ) → IsFreeAmong l.slots l.left l.at place → IsFreeAmong l.slots window l.first place)

abbrev pub decreases-loop-left : goal.decreases-loop-left
decreases-loop-left g l = l.left
