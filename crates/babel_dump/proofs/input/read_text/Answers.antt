-- What was given so far, and the octets of one more read.
use Rattle.std.proofs.Common.{rules}
use Rattle.babel_dump.specs.Device.{Gave}
use Rattle.babel_dump.proofs.Devices.{gave_more}
use Rattle.babel_dump.proofs.input.read_text.Goals as goal

pub returns-then-len-limit : goal.returns-then-len-limit
returns-then-len-limit g c =
    let gave = gave_more (g.R.ByteIn.state c.args.reader.now) (g.R.ByteIn.state c.reads.reader) (g.R.ByteIn.state c.read.new.self) c.reads.text.items _ c.reads.invariant.gave c.in-Ok.ensures.octets.0 in
    let all : Gave (g.R.ByteIn.state c.args.reader.now) (g.R.ByteIn.state c.read.new.self) c.extend_from_slice.new.self.items =
    rw c.in_ok-extend_from_slice-in-Ok.ensures.items gave in
    record {
      made = tt;
      cause = record { octets = c.extend_from_slice.new.self.items; gave = all; over = search rules };
      called = search rules;
    }

pub reads-preserved : goal.reads-preserved
reads-preserved g c =
    let gave = gave_more (g.R.ByteIn.state c.args.reader.now) (g.R.ByteIn.state c.reads.reader) (g.R.ByteIn.state c.read.new.self) c.reads.text.items _ c.reads.invariant.gave c.in-Ok.ensures.octets.0 in
    record {
      gave = rw c.in_ok-extend_from_slice-in-Ok.ensures.items gave;
      in_limit = search rules;
      some_each = search rules;
      no_failure = search rules;
      no_end = search rules;
      reads = search rules;
    }
