-- It says it of those so far.
use Rattle.std.proofs.Common.{◌≡◌, take}
use Rattle.babel_selection.specs.Selection.{has_least}
use Rattle.babel_selection.proofs.selection.has_least.Given as goal

abbrev pub invariant-loop-candidate : goal.invariant-loop-candidate
invariant-loop-candidate l = l.found ≡ has_least l.least (take l.candidate-index l.candidates) l.own
