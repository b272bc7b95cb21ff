-- The reasons that are left become fewer.
use Rattle.std.proofs.Common.{length}
use Rattle.babel_dump.proofs.by_reason.+first_of.Given as goal

abbrev pub decreases-first_of : goal.decreases-first_of
decreases-first_of g l = length l.reasons.now
