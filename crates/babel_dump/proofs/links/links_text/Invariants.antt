-- The lines so far and those of the links that are left are all lines.
use Rattle.std.proofs.Common.{◌≡◌, ◌++◌}
use Rattle.babel_dump.proofs.LinkLines.{lines_kept}
use Rattle.babel_dump.proofs.links.links_text.Given as goal

abbrev pub invariant-loop-pair : goal.invariant-loop-pair
invariant-loop-pair l = l.text.items ++ lines_kept l.format l.judged l.heard l.gathered l.pair-iterator ≡ lines_kept l.format l.judged l.heard l.gathered l.initial.pair-iterator
