-- The answers of the changes are those of the rows, where all changes are made.
use Rattle.babel_prefix.specs.Entries.{answers_in}
use Rattle.babel_trie.proofs.grid.Grid.within.Goals as goal

pub of_runs-requires-clause-runs : goal.of_runs-requires-clause-runs
of_runs-requires-clause-runs g c = (answers_in c.args.family (g.R.Rows.rows c.args.rows), rw c.in-Some.is at c.in_ok-runs.ensures.runs)

pub returns-clause-answers : goal.returns-clause-answers
returns-clause-answers g c = c.in_ok-grid.ensures.answers (answers_in c.args.family (g.R.Rows.rows c.args.rows)) (rw c.in-Some.is at c.in_ok-runs.ensures.runs)

pub returns-clause-boxes : goal.returns-clause-boxes
returns-clause-boxes g c = c.in_ok-grid.ensures.boxes (answers_in c.args.family (g.R.Rows.rows c.args.rows)) (rw c.in-Some.is at c.in_ok-runs.ensures.runs)
