-- The run of zeros that the low groups begin with, and the longest one of them.
use Rattle.std.proofs.Common.{◌≡◌, ◌+◌, ◌≤◌}
use Rattle.std.specs.Net.Text.{zero_run, longest_zero_run}
use Rattle.babel_prefix.specs.Text.{groups_from}
use Rattle.babel_prefix.proofs.gap.Gap.of.Given as goal

abbrev pub invariant-loop-place : goal.invariant-loop-place
invariant-loop-place l =
    (l.run ≡ zero_run (groups_from l.place l.bits)) × (l.run ≤ l.place)
    × (l.len ≡ (longest_zero_run (groups_from l.place l.bits)).1)
    × ((longest_zero_run (groups_from l.place l.bits)).0 + l.len + l.after ≡ l.place)
