-- The lines so far, and those of what is left, are all of them.
use Rattle.std.proofs.Common.{◌≡◌, ◌++◌, flat_map}
use Rattle.babel_dump.specs.OriginText.{shown_in}
use Rattle.babel_dump.proofs.origins_text.shown.Given as goal

abbrev pub invariant-loop-one : goal.invariant-loop-one
invariant-loop-one l = l.text.items ++ flat_map (shown_in l.format) l.one-iterator ≡ flat_map (shown_in l.format) l.all.entries
