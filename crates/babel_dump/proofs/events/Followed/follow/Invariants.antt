-- What was read so far was followed, its lines are written, and each turn has one read and one flush.
use Rattle.std.proofs.Common.{◌≡◌, ◌+◌, ◌≤◌, [], vec_capacity}
use Rattle.babel_dump.specs.Run.{output}
use Rattle.babel_dump.proofs.FollowRuns.{IsFollowedSoFar}
use Rattle.babel_dump.proofs.events.Followed.follow.Given as goal

abbrev pub invariant-reads : goal.invariant-reads
invariant-reads g l = record {
  followed : IsFollowedSoFar l.events (g.R.ByteIn.state l.initial.reader) (g.R.ByteIn.state l.reader) (output (g.W.ByteOut.state l.initial.writer) (g.W.ByteOut.state l.writer)) l.counter l.self;
  told : l.self.follower.told.items ≡ [];
  empty : l.self.buffer.items ≡ [];
  room : 2048 ≤ vec_capacity l.self.buffer;
  no_failure : (g.R.ByteIn.state l.reader).failures ≡ (g.R.ByteIn.state l.initial.reader).failures;
  no_end : (g.R.ByteIn.state l.reader).ends ≡ (g.R.ByteIn.state l.initial.reader).ends;
  reads : (g.R.ByteIn.state l.reader).reads ≡ (g.R.ByteIn.state l.initial.reader).reads + l.counter;
  failures : (g.W.ByteOut.state l.writer).failures ≡ (g.W.ByteOut.state l.initial.writer).failures;
  flushes : (g.W.ByteOut.state l.writer).flushes ≡ (g.W.ByteOut.state l.initial.writer).flushes + l.counter;
}
