-- The lines so far, and those of what is left, are all of them.
use Rattle.std.proofs.Common.{◌≡◌, ◌++◌, drop, flat_map}
use Rattle.babel_dump.specs.OriginText.{change_in}
use Rattle.babel_dump.proofs.origins_text.push_changes.Given as goal

abbrev pub invariant-loop-change : goal.invariant-loop-change
invariant-loop-change l = l.text.items ++ flat_map (change_in l.fn.origins.left.format l.coloured l.has_metric) (drop l.change-index l.list)
    ≡ l.initial.text.items ++ flat_map (change_in l.fn.origins.left.format l.coloured l.has_metric) l.list
