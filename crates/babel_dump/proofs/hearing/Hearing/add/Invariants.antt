-- What was told first of those that are not lost is added.
use Rattle.std.proofs.Common.{◌≡◌, ◌++◌, take}
use Rattle.babel_dump.specs.Followed.{unlost_by}
use Rattle.babel_dump.proofs.hearing.Hearing.add.Given as goal

abbrev pub invariant-loop-telling : goal.invariant-loop-telling
invariant-loop-telling l = l.told.items ≡ l.fn.told.items ++ unlost_by l.self.lost (take l.telling-index l.self.printed.items)
