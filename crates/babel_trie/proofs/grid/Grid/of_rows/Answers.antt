-- The answers of the changes are those of the rows.
use Rattle.babel_prefix.specs.Entries.{answers_in}
use Rattle.babel_trie.proofs.PartLaws.{if_ok_then}
use Rattle.babel_trie.proofs.grid.Grid.of_rows.Goals as goal

pub of_runs-requires-clause-runs : goal.of_runs-requires-clause-runs
of_runs-requires-clause-runs g c = (answers_in c.args.family (g.R.Rows.rows c.args.rows), c.in_ok-runs.ensures.runs)

pub returns-clause-answers : goal.returns-clause-answers
returns-clause-answers g c =
    if_ok_then c.of_runs.result c.of_runs.ensures.answers (λ grid answers. answers (answers_in c.args.family (g.R.Rows.rows c.args.rows)) c.in_ok-runs.ensures.runs)

pub returns-clause-boxes : goal.returns-clause-boxes
returns-clause-boxes g c =
    if_ok_then c.of_runs.result c.of_runs.ensures.boxes (λ grid boxes. boxes (answers_in c.args.family (g.R.Rows.rows c.args.rows)) c.in_ok-runs.ensures.runs)
