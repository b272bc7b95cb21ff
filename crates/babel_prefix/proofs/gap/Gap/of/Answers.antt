-- After the highest group the longest run is that of all eight.
use Rattle.std.proofs.Common.{arith}
use Rattle.babel_prefix.proofs.GapLaws.{found, none_found}
use Rattle.babel_prefix.proofs.gap.Gap.of.Goals as goal

pub returns-then-len-lt-LEAST-clause-value : goal.returns-then-len-lt-LEAST-clause-value
returns-then-len-lt-LEAST-clause-value c = let seen = c.loop-place.invariant in none_found c.loop-place.place c.args.bits c.loop-place.len (omega arith) seen.2 (omega arith)

pub returns-clause-value : goal.returns-clause-value
returns-clause-value c = let seen = c.loop-place.invariant in found c.loop-place.place c.args.bits c.loop-place.len c.loop-place.after (omega arith) seen.2 seen.3 (omega arith)
