-- Nothing is gone, and nothing is ahead.
use Rattle.std.proofs.Common.{length, None, refl, ap, arith}
use Rattle.babel_trie.specs.Split.{rows_of_split}
use Rattle.babel_trie.specs.declared.pass.Reached.{Reached}
use Rattle.babel_trie.specs.declared.runs.Change.{Change}
use Rattle.babel_trie.specs.declared.table.Loose.TheVariants.{Same}
use Rattle.babel_trie.specs.declared.table.Sources.TheVariants.{Constant}
use Rattle.babel_trie.proofs.PassLaws.{way-first}
use Rattle.babel_trie.proofs.SplitLaws.{rows-split}
use Rattle.babel_trie.proofs.pass.Pass.new.Goals as goal

pub returns-clause-pass : goal.returns-clause-pass
returns-clause-pass g c width nodes order table =
    let rows = g.R.Rows.rows in
    let all = rows c.args.rows in
    let now : Change (Reached g.row.V.Denot) = record { start = 0; sources = record { trie = Constant None; made = 0 } } in
    way-first width all (rows_of_split rows c.split.result) nodes now c.new.result.items table order
    (rows-split rows all c.split.result c.split.ensures) refl refl (Same None, refl, refl) c.new.ensures.items

pub returns-clause-few : goal.returns-clause-few
returns-clause-few g c =
    let rows = g.R.Rows.rows in
    omega (arith, ap length c.new.ensures.items, ap length (rows-split rows (rows c.args.rows) c.split.result c.split.ensures))
