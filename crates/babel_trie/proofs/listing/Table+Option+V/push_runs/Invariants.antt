-- The rows that are put out and those of the changes that are left are all rows.
use Rattle.std.proofs.Common.{◌≡◌, ◌+◌, ◌++◌, List, map, length, Option}
use Rattle.babel_prefix.specs.Best.{Row}
use Rattle.babel_prefix.specs.Members.{Listed}
use Rattle.babel_prefix.specs.Width.{width_of}
use Rattle.babel_trie.specs.Interned.{HasTrie}
use Rattle.babel_trie.specs.Nested.{entry_at}
use Rattle.babel_trie.specs.Sinks.{GoesOn}
use Rattle.babel_trie.specs.Spans.{spans, span_rows, run_rows}
use Rattle.babel_trie.specs.declared.runs.Change.{Change}
use Rattle.babel_trie.specs.declared.table.Sources.{Sources}
use Rattle.babel_trie.proofs.SpanLaws.{IsRising}
use Rattle.babel_trie.proofs.listing.Table+Option+V.push_runs.Given as goal

abbrev pub invariant-loop-run : goal.invariant-loop-run
invariant-loop-run g l = record {
  rising : IsRising (l.top + 1) l.rest;
  each : (x : Change (Sources (Option g.row.V.Denot))) → Listed l.rest x → HasTrie (width_of l.family) l.self.nodes.items x.sources;
  done : List (Row g.row.V.Denot);
  can : g.S.Sink.can_put l.out;
  put : GoesOn g.S.Sink.has l.fn.out l.out (map (entry_at l.family) done);
  rows : done ++ span_rows (width_of l.family) l.self.nodes.items (spans (l.top + 1) l.rest) ≡ run_rows (width_of l.family) l.self.nodes.items l.runs;
}

abbrev pub decreases-loop-run : goal.decreases-loop-run
decreases-loop-run g l = length l.rest
