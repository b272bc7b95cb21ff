-- No change needs more nodes than the one come to.
use Rattle.babel_trie.specs.Pass.{ahead_of, rows_left}
use Rattle.babel_trie.proofs.PassLaws.{way-cut}
use Rattle.babel_trie.proofs.pass.Pass.made.Goals as goal

pub returns : goal.returns
returns g c =
    let self = c.args.self.now in
    record { enough = λ w len rows nodes le p. way-cut w rows (rows_left g.R.Rows.rows self) nodes len self.now (ahead_of self) le p }
