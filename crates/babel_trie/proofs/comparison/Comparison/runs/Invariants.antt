-- Below the address the list tells the rows apart, and neither pass has come further or has a row before it.
use Rattle.std.proofs.Common.{◌-◌, ◌^◌, ◌<◌, ◌≤◌, map}
use Rattle.std.specs.Option.{option_cmp}
use Rattle.babel_prefix.specs.Best.{answer}
use Rattle.babel_prefix.specs.Entries.{row_of}
use Rattle.babel_trie.specs.Boxes.{Answers}
use Rattle.babel_trie.specs.Differences.{IsDifference}
use Rattle.babel_trie.specs.Marks.{option_mark, differing_mark, sources_mark}
use Rattle.babel_trie.specs.Pass.{IsPassOver, StartRowsFrom, rows_left}
use Rattle.babel_trie.specs.Runs.{AreRuns, StartBelow}
use Rattle.babel_trie.specs.Sound.{IsSound}
use Rattle.babel_trie.specs.declared.differing.Differing.{Differing}
use Rattle.babel_trie.proofs.NodeLaws.{sources_cmp}
use Rattle.babel_trie.proofs.RunLaws.{Says}
use Rattle.babel_trie.proofs.TellLaws.{differing_cmp}
use Rattle.babel_trie.proofs.comparison.Comparison.runs.Given as goal

abbrev pub invariant-loop-list : goal.invariant-loop-list
invariant-loop-list g l = record {
  differing : IsSound (sources_cmp (option_cmp (differing_cmp g.V.Ord.cmp))) (sources_mark (option_mark (differing_mark (option_mark g.V.LawfulOrd.mark))))
      l.self.differences.nodes.items l.self.differences.numbers;
  sound : IsSound (sources_cmp (option_cmp g.V.Ord.cmp)) (sources_mark (option_mark g.V.LawfulOrd.mark)) l.table.nodes.items l.table.numbers;
  pass : IsPassOver l.width g.L.Rows.rows (g.L.Rows.rows l.fn.left) l.table.nodes.items l.pass;
  other : IsPassOver l.width g.R.Rows.rows (g.R.Rows.rows l.fn.right) l.table.nodes.items l.other;
  reached : l.pass.now.start ≤ l.at;
  other_reached : l.other.now.start ≤ l.at;
  rows : StartRowsFrom l.at (rows_left g.L.Rows.rows l.pass);
  other_rows : StartRowsFrom l.at (rows_left g.R.Rows.rows l.other);
  within : l.at < 2 ^ l.width;
  runs : AreRuns l.list.items;
  below : StartBelow l.at l.list.items;
  says : (h : Answers (Differing g.row.V.Denot)) → IsDifference l.width (answer l.width (map row_of (g.L.Rows.rows l.fn.left))) (answer l.width (map row_of (g.R.Rows.rows l.fn.right))) h →
      Says l.width l.at h l.self.differences.nodes.items l.list.items;
}

abbrev pub decreases-loop-list : goal.decreases-loop-list
decreases-loop-list g l = 2 ^ 128 - l.at
