use Rattle.std.proofs.Common.{◌≡◌, length}
use Rattle.babel_capture.specs.Passage.{left_known}
use Rattle.babel_capture.proofs.known.Known.forget_past.Given as goal

abbrev pub invariant-loop-self : goal.invariant-loop-self
invariant-loop-self l = left_known l.fn.clock l.self ≡ left_known l.fn.clock l.fn.self

abbrev pub decreases-loop-self : goal.decreases-loop-self
decreases-loop-self l = length l.self
