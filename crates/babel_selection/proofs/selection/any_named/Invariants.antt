-- It says it of those so far.
use Rattle.std.proofs.Common.{◌≡◌, take}
use Rattle.babel_selection.specs.Selection.{any_named}
use Rattle.babel_selection.proofs.selection.any_named.Given as goal

abbrev pub invariant-loop-candidate : goal.invariant-loop-candidate
invariant-loop-candidate l = l.found ≡ any_named l.owns (take l.candidate-index l.candidates)
