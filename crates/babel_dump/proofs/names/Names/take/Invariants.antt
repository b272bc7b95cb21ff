-- The lines so far were taken.
use Rattle.babel_dump.specs.AskedPairs.{lines_of}
use Rattle.babel_dump.proofs.NamesLaws.{AreTaken}
use Rattle.babel_dump.proofs.names.Names.take.Given as goal

abbrev pub invariant-loop-index : goal.invariant-loop-index
invariant-loop-index l = AreTaken l.line-items (lines_of l.text) l.index l.self
