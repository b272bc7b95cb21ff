use Rattle.std.proofs.Common.{◌≡◌, ◌≤◌, ◌-◌, length, take}
use Rattle.babel_capture.specs.Sinking.{LeadMore, Sinks}
use Rattle.babel_capture.proofs.reader.Reader.take_blocks.Given as goal

abbrev pub invariant-loop-block : goal.invariant-loop-block
invariant-loop-block g l = record {
  wanted : l.self.gathering.wanted ≡ l.fn.self.gathering.wanted;
  passed : l.self.passed ≡ l.fn.self.passed;
  within : l.used ≤ length l.octets;
  took : Sinks g.S.Sink.has l.fn.sink l.sink (LeadMore l.fn.self l.self (take l.used l.octets));
}

abbrev pub decreases-loop-block : goal.decreases-loop-block
decreases-loop-block g l = length l.octets - l.used
