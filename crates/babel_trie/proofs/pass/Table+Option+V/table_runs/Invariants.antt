-- Below the address the list says what the rows answer, by the nodes that are kept, and the pass has come no further.
use Rattle.std.proofs.Common.{◌≡◌, ◌⊎◌, ◌+◌, ◌-◌, ◌*◌, ◌^◌, ◌<◌, ◌≤◌, length, map, take}
use Rattle.std.specs.Option.{option_cmp}
use Rattle.babel_prefix.specs.Best.{answer}
use Rattle.babel_prefix.specs.Entries.{row_of}
use Rattle.babel_trie.specs.Marks.{option_mark, sources_mark}
use Rattle.babel_trie.specs.Pass.{IsPassOver, IsQuietUpTo, StartRowsFrom, changes_left, rows_left}
use Rattle.babel_trie.specs.Runs.{AreRuns, StartBelow}
use Rattle.babel_trie.specs.Sound.{IsSound, KeepsNodes}
use Rattle.babel_trie.proofs.NodeLaws.{sources_cmp}
use Rattle.babel_trie.proofs.RunLaws.{Says}
use Rattle.babel_trie.proofs.pass.Table+Option+V.table_runs.Given as goal

abbrev pub invariant-loop-due : goal.invariant-loop-due
invariant-loop-due g l = record {
  sound : IsSound (sources_cmp (option_cmp g.V.Ord.cmp)) (sources_mark (option_mark g.V.LawfulOrd.mark)) l.self.nodes.items l.self.numbers;
  keeps : KeepsNodes l.fn.self.nodes.items (take l.kept l.self.nodes.items);
  pass : IsPassOver l.width g.R.Rows.rows (g.R.Rows.rows l.fn.rows) l.self.nodes.items l.pass;
  reached : l.pass.now.start ≤ l.at;
  rows : StartRowsFrom l.at (rows_left g.R.Rows.rows l.pass);
  within : l.at < 2 ^ l.width;
  runs : AreRuns l.list.items;
  below : StartBelow l.at l.list.items;
  due : 0 < l.due;
  says : Says l.width l.at (answer l.width (map row_of (g.R.Rows.rows l.fn.rows))) (take l.kept l.self.nodes.items) l.list.items;
  few : ((length l.list.items ≡ 0) × (changes_left g.R.Rows.rows l.pass ≤ 2 * length (g.R.Rows.rows l.fn.rows)))
      ⊎ ((IsQuietUpTo l.at g.R.Rows.rows l.pass → ⊥) × (length l.list.items + changes_left g.R.Rows.rows l.pass ≤ 2 * length (g.R.Rows.rows l.fn.rows) + 1));
}

abbrev pub decreases-loop-due : goal.decreases-loop-due
decreases-loop-due g l = 2 ^ 128 - l.at
