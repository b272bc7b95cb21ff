-- It is the first least one of those so far.
use Rattle.std.proofs.Common.{◌≡◌, take}
use Rattle.babel_selection.specs.Selection.{least_own}
use Rattle.babel_selection.proofs.selection.least_own.Given as goal

abbrev pub invariant-loop-own : goal.invariant-loop-own
invariant-loop-own l = l.best ≡ least_own (take l.own-index l.owns)
