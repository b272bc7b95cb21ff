use Rattle.std.proofs.Common.{◌≡◌, ◌+◌, ◌≤◌, length}
use Rattle.babel_dump.specs.Device.{Gave}
use Rattle.babel_dump.proofs.input.read_text.Given as goal

abbrev pub invariant-reads : goal.invariant-reads
invariant-reads g l = record {
  gave : Gave (g.R.ByteIn.state l.initial.reader) (g.R.ByteIn.state l.reader) l.text.items;
  in_limit : length l.text.items ≤ l.fn.reading.limits.bytes;
  some_each : l.counter ≤ length l.text.items;
  no_failure : (g.R.ByteIn.state l.reader).failures ≡ (g.R.ByteIn.state l.initial.reader).failures;
  no_end : (g.R.ByteIn.state l.reader).ends ≡ (g.R.ByteIn.state l.initial.reader).ends;
  reads : (g.R.ByteIn.state l.reader).reads ≡ (g.R.ByteIn.state l.initial.reader).reads + l.counter;
}
