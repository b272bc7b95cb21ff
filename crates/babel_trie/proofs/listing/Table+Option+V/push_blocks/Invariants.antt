-- The blocks so far are a cut up to the next address, and their rows are put out.
use Rattle.std.proofs.Common.{◌≤◌, ◌-◌, List, map}
use Rattle.babel_prefix.specs.Block.{Block}
use Rattle.babel_prefix.specs.Width.{width_of}
use Rattle.babel_trie.specs.Held.{sources_at}
use Rattle.babel_trie.specs.Nested.{entry_at, rows_of}
use Rattle.babel_trie.specs.Sinks.{GoesOn}
use Rattle.babel_trie.specs.Spans.{each_with}
use Rattle.babel_trie.proofs.Cuts.{IsCutTo}
use Rattle.babel_trie.proofs.listing.Table+Option+V.push_blocks.Given as goal

abbrev pub invariant-loop-end : goal.invariant-loop-end
invariant-loop-end g l = record {
  from_in : l.from ≤ l.at;
  at_in : l.at ≤ l.last;
  blocks : List Block;
  cut : IsCutTo (width_of l.family) l.from l.last l.at blocks;
  can : g.S.Sink.can_put l.out;
  put : GoesOn g.S.Sink.has l.fn.out l.out (map (entry_at l.family) (rows_of (width_of l.family) (each_with (sources_at (width_of l.family) l.self.nodes.items l.fn.sources) blocks)));
}

abbrev pub decreases-loop-end : goal.decreases-loop-end
decreases-loop-end g l = l.last - l.at
