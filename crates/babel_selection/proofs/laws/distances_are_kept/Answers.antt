-- The laws are lemmas of SourceLaws.
use Rattle.babel_selection.proofs.SourceLaws.{begins_distances, update_keeps_distances}
use Rattle.babel_selection.proofs.laws.distances_are_kept.Goals as goal

pub returns-clause-begun : goal.returns-clause-begun
returns-clause-begun c = begins_distances

pub returns-clause-update : goal.returns-clause-update
returns-clause-update c = update_keeps_distances
