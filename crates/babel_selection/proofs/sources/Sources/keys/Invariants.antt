-- Those so far and those that are left are all of them.
use Rattle.std.proofs.Common.{◌≡◌, ◌++◌}
use Rattle.babel_selection.specs.Announcing.{standing_keys}
use Rattle.babel_selection.proofs.sources.Sources.keys.Given as goal

abbrev pub invariant-loop-source : goal.invariant-loop-source
invariant-loop-source l = l.keys.items ++ standing_keys l.moment l.source-iterator ≡ standing_keys l.moment l.self
