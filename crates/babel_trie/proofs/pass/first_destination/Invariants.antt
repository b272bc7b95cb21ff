-- The rows so far have the destination.
use Rattle.std.proofs.Common.{◌≡◌, ◌<◌, ◌∷◌, ◌++◌, length}
use Rattle.babel_prefix.specs.Address.{block_of}
use Rattle.babel_prefix.proofs.Members.{Listed}
use Rattle.babel_trie.specs.Split.{rows_of_split}
use Rattle.babel_trie.proofs.pass.first_destination.Given as goal

abbrev pub invariant-loop-others : goal.invariant-loop-others
invariant-loop-others g l = record {
  some : 0 < length l.own.items;
  parts : l.first ∷ g.R.Rows.rows l.fn.behind ≡ l.own.items ++ rows_of_split g.R.Rows.rows l.others;
  one : (x : _) → Listed l.own.items x → block_of x.0 ≡ block_of l.first.0;
}

abbrev pub decreases-loop-others : goal.decreases-loop-others
decreases-loop-others g l = length (rows_of_split g.R.Rows.rows l.others)
