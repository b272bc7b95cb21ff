-- Below the address the lists answer the same, and from it on what is left of them says what they do.
use Rattle.std.proofs.Common.{◌≡◌, ℕ, ◌-◌, ◌^◌, ◌≤◌}
use Rattle.babel_trie.specs.Differs.{AgreeBelowBoth}
use Rattle.babel_trie.specs.Runs.{said_at, AreRuns, StartFrom, run_answers}
use Rattle.babel_trie.proofs.ApartLaws.{no_sources}
use Rattle.babel_trie.proofs.apart.Table+Option+V.first_pair.Given as goal

abbrev pub invariant-loop-src : goal.invariant-loop-src
invariant-loop-src g l = record {
  in_range : l.at ≤ l.last;
  below : AgreeBelowBoth l.at (2 ^ l.width) (run_answers l.width l.self.nodes.items no_sources l.left) (run_answers l.width l.other.nodes.items no_sources l.right);
  left_same : (d : ℕ) → l.at ≤ d → said_at l.here l.lefts d ≡ said_at no_sources l.left d;
  right_same : (d : ℕ) → l.at ≤ d → said_at l.there l.rights d ≡ said_at no_sources l.right d;
  left_runs : AreRuns l.lefts;
  right_runs : AreRuns l.rights;
  left_from : StartFrom l.at l.lefts;
  right_from : StartFrom l.at l.rights;
}

abbrev pub decreases-loop-src : goal.decreases-loop-src
decreases-loop-src g l = 2 ^ 128 - l.at
