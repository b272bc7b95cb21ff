use Rattle.babel_dump.specs.AskedPairs.{lines_of}
use Rattle.babel_dump.proofs.AskedLaws.{AreAsked}
use Rattle.babel_dump.proofs.asked_pairs.asked_pairs.Given as goal

abbrev pub invariant-loop-index : goal.invariant-loop-index
invariant-loop-index l = AreAsked l.line-items (lines_of l.text) l.index l.pairs.items
