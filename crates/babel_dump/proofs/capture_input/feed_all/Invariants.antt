-- In each turn the reader gave an octet at least, all that it gave was fed, its packets were taken, and there is no fault.
use Rattle.std.proofs.Common.{◌≡◌, ◌+◌, None}
use Rattle.babel_dump.proofs.CaptureFeeding.{IsFedSoFar, IsReadFrom}
use Rattle.babel_dump.proofs.capture_input.feed_all.Given as goal

abbrev pub invariant-reads : goal.invariant-reads
invariant-reads g l = record {
  from : IsReadFrom l.capture l.fn.reading l.initial.capture.progress.gathering.wanted;
  no_fault : l.capture.fault ≡ None;
  given : IsFedSoFar g.S.Sink.has l.initial.sink l.sink l.capture (g.R.ByteIn.state l.initial.reader) (g.R.ByteIn.state l.reader) l.counter;
  no_failure : (g.R.ByteIn.state l.reader).failures ≡ (g.R.ByteIn.state l.initial.reader).failures;
  no_end : (g.R.ByteIn.state l.reader).ends ≡ (g.R.ByteIn.state l.initial.reader).ends;
  reads : (g.R.ByteIn.state l.reader).reads ≡ (g.R.ByteIn.state l.initial.reader).reads + l.counter;
}
