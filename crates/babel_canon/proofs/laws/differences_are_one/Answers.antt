-- Two tables have one list of differences, by the lemma of both families.
use Rattle.babel_canon.proofs.OneDifferences.{differences_are_one, many_are_more}
use Rattle.babel_canon.proofs.laws.differences_are_one.Goals as goal

pub returns-clause-one : goal.returns-clause-one
returns-clause-one c = differences_are_one

pub returns-clause-many : goal.returns-clause-many
returns-clause-many c = many_are_more
