use Rattle.std.proofs.Common.{◌≡◌, length}
use Rattle.babel_capture.specs.Passing.{GivesUp}
use Rattle.babel_capture.specs.Sinking.{Sinks}
use Rattle.babel_capture.proofs.passing.Passing.give_up.Given as goal

abbrev pub invariant-loop-self : goal.invariant-loop-self
invariant-loop-self g l = record {
  wanted : l.self.gathering.wanted ≡ l.fn.self.gathering.wanted;
  names : l.self.gathering.names ≡ l.fn.self.gathering.names;
  packets : l.self.gathering.report.packets ≡ l.fn.self.gathering.report.packets;
  took : Sinks g.S.Sink.has l.fn.sink l.sink (GivesUp l.fn.self l.self);
}

abbrev pub decreases-loop-self : goal.decreases-loop-self
decreases-loop-self g l = length l.self.known.unfinished
