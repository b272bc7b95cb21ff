-- It says it of those so far.
use Rattle.std.proofs.Common.{◌≡◌, take}
use Rattle.babel_selection.specs.Selection.{all_contradicted}
use Rattle.babel_selection.proofs.selection.all_contradicted.Given as goal

abbrev pub invariant-loop-own : goal.invariant-loop-own
invariant-loop-own l = l.all ≡ all_contradicted l.least l.candidates (take l.own-index l.owns)
