-- It says it of those so far.
use Rattle.std.proofs.Common.{◌≡◌, take}
use Rattle.babel_selection.specs.Selection.{is_named}
use Rattle.babel_selection.proofs.selection.is_named.Given as goal

abbrev pub invariant-loop-own : goal.invariant-loop-own
invariant-loop-own l = l.found ≡ is_named (take l.own-index l.owns) l.candidate
