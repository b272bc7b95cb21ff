use Rattle.std.proofs.Common.{◌≡◌, ◌++◌}
use Rattle.std.specs.Map.{values_of}
use Rattle.babel_capture.specs.Pieces.{joined}
use Rattle.babel_capture.proofs.pieces.Pieces.joined.Given as goal

abbrev pub invariant-loop-piece : goal.invariant-loop-piece
invariant-loop-piece l = l.octets.items ++ joined l.piece-iterator ≡ joined (values_of l.self)
