use Rattle.std.proofs.Common.{◌≡◌, length}
use Rattle.babel_capture.specs.Passing.{GivesLast}
use Rattle.babel_capture.specs.Sinking.{Sinks}
use Rattle.babel_capture.proofs.passing.Passing.end.Given as goal

abbrev pub invariant-loop : goal.invariant-loop
invariant-loop g l = record {
  wanted : l.self.gathering.wanted ≡ l.fn.self.gathering.wanted;
  names : l.self.gathering.names ≡ l.fn.self.gathering.names;
  packets : l.self.gathering.report.packets ≡ l.fn.self.gathering.report.packets;
  took : Sinks g.S.Sink.has l.fn.sink l.sink (GivesLast l.fn.self l.self);
}

abbrev pub decreases-loop : goal.decreases-loop
decreases-loop g l = length l.self.known.unfinished
