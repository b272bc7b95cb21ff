-- Those so far, and those of what is left, are all of them.
use Rattle.std.proofs.Common.{◌≡◌, ◌++◌}
use Rattle.babel_dump.specs.OriginText.{changes_of}
use Rattle.babel_dump.proofs.origins_text.changes_of.Given as goal

abbrev pub invariant-loop-one : goal.invariant-loop-one
invariant-loop-one l = l.list.items ++ changes_of l.has_metric l.one-iterator ≡ changes_of l.has_metric l.all.entries
