-- It is the least of those so far.
use Rattle.std.proofs.Common.{◌≡◌, take}
use Rattle.babel_selection.specs.Selection.{least_total}
use Rattle.babel_selection.proofs.selection.least_total.Given as goal

abbrev pub invariant-loop-candidate : goal.invariant-loop-candidate
invariant-loop-candidate l = l.least ≡ least_total (take l.candidate-index l.candidates)
