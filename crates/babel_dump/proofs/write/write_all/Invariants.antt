use Rattle.std.proofs.Common.{length, ◌-◌, ◌≡◌, ◌≤◌, take}
use Rattle.std.specs.Io.KnownBytes.{Appends}
use Rattle.babel_dump.proofs.write.write_all.Given as goal

abbrev pub invariant-loop-taken : goal.invariant-loop-taken
invariant-loop-taken g l = record {
  within : l.taken ≤ length l.octets;
  front : Appends (g.W.ByteOut.state l.initial.writer).taken (g.W.ByteOut.state l.writer).taken (take l.taken l.octets);
  no_flush : (g.W.ByteOut.state l.writer).flushes ≡ (g.W.ByteOut.state l.initial.writer).flushes;
  no_failure : (g.W.ByteOut.state l.writer).failures ≡ (g.W.ByteOut.state l.initial.writer).failures;
}

abbrev pub decreases-loop-taken : goal.decreases-loop-taken
decreases-loop-taken g l = length l.octets - l.taken
