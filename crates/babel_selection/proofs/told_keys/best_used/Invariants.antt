-- It is the best one of those so far.
use Rattle.std.proofs.Common.{◌≡◌, take}
use Rattle.babel_selection.specs.ToldKeys.{best_used}
use Rattle.babel_selection.proofs.told_keys.best_used.Given as goal

abbrev pub invariant-loop-one : goal.invariant-loop-one
invariant-loop-one l = l.best ≡ best_used l.dst l.src (take l.one-index l.keys)
