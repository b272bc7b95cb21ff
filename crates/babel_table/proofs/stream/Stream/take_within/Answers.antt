-- Octets up to the limit leave a stream within it.
use Rattle.std.proofs.Common.{◌+◌, ◌-◌, length, arith, refl, ap, inl, inr}
use Rattle.std.proofs.lemmas.List.{length-append, take_all}
use Rattle.std.proofs.lemmas.Result.{MatchResult-weaker}
use Rattle.babel_table.specs.Feeding.{routes}
use Rattle.babel_table.proofs.DumpLaws.{ready-next}
use Rattle.babel_table.proofs.stream.Stream.take_within.Goals as goal

pub returns-then-octets-room-clause-ready : goal.returns-then-octets-room-clause-ready
returns-then-octets-room-clause-ready c =
    ready-next _ _ _ c.take.result c.args.bytes c.args.self.now.so_far.report.tlvs c.take.new.self.so_far.report.tlvs c.args.self.now.at
    c.take.new.self.at c.args.self.now.pending c.take.new.self.pending c.args.octets.now _ _ c.requires c.take.ensures.counted
    c.take.ensures.partial c.take.ensures.took
    (omega (arith, c.if-octets-room.true, ap length c.octets.ensures, c.requires.in_limit))

pub returns-then-octets-room-clause-stops : goal.returns-then-octets-room-clause-stops
returns-then-octets-room-clause-stops c =
    let room = c.args.bytes - (c.args.self.now.at + length c.args.self.now.pending) in
    let all = take_all room c.args.octets.now (omega (arith, c.if-octets-room.true, ap length c.octets.ensures)) in
    MatchResult-weaker c.take.result c.take.ensures.stops (λ done so. so) (λ fault stops. inl (rw all stops))

pub returns-in-Ok-clause-stops : goal.returns-in-Ok-clause-stops
returns-in-Ok-clause-stops c =
    inr (
      refl,
      omega (
        arith,
        ap length c.octets.ensures,
        c.if-octets-room.false,
        length-append c.args.self.now.pending c.args.octets.now,
        c.requires.in_limit,
      ),
      routes c.take-2.new.self.so_far.rows.rows c.take-2.new.self.so_far.report,
      c.take-2.new.self.pending,
      c.take-2.new.self.at,
      rw c.octets.ensures at c.in-Ok.ensures.took,
      c.in-Ok.ensures.partial,
    )

pub returns-in-Err-clause-stops : goal.returns-in-Err-clause-stops
returns-in-Err-clause-stops c = inl (rw c.octets.ensures at c.in-Err.ensures.stops)
