-- What was read so far stands in front of what is left.
use Rattle.std.proofs.Common.{◌≡◌, ◌≤◌, ◌-◌, take, length}
use Rattle.std.specs.Io.KnownBytes.{Consumes}
use Rattle.babel_dump.proofs.begun.read_first.Given as goal

abbrev pub invariant-loop-len : goal.invariant-loop-len
invariant-loop-len g l =
    (l.len ≤ length l.first) × (length l.first ≡ length l.initial.first) × Consumes (g.R.Read.remaining l.initial.reader) (g.R.Read.remaining l.reader) (take l.len l.first)

abbrev pub decreases-loop-len : goal.decreases-loop-len
decreases-loop-len g l = length l.first - l.len
