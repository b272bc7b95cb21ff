-- The rows of tables rise.
use Rattle.babel_canon.proofs.DifferingRows.{differences_are}
use Rattle.babel_canon.proofs.differing_routes.RouteDifferences.of.Goals as goal

pub returns-clause-are : goal.returns-clause-are
returns-clause-are c = rw (c.rows.ensures.value, c.rows-2.ensures.value) (differences_are c.args.left.now.rows c.args.right.now.rows c.rows.ensures.valid.rising c.rows-2.ensures.valid.rising)
