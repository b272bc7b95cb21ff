-- What the router's own packet announces is what its record does.
use Rattle.std.proofs.Common.{ap, sym, ◌∙◌, refl}
use Rattle.std.specs.Option.{unwrap_or}
use Rattle.std.proofs.lemmas.Result.{on_ok_weaker}
use Rattle.babel_capture.specs.Sinking.{packet_said}
use Rattle.babel_dump.proofs.PacketsFed.{none_said}
use Rattle.babel_dump.proofs.SelectHeard.{hears_none, hears_other, hears_own}
use Rattle.babel_dump.proofs.selecting.hear_updates.Goals as goal

pub returns-then-is_own : goal.returns-then-is_own
returns-then-is_own c =
    on_ok_weaker c.hear_packet.result
    (λ takes one told. hears_own c.args.select.now one c.args.told.now told c.in-Packet.packet c.nanoseconds.result c.args.sources.now c.hear_packet.new.self (ap packet_said c.in-Packet.is)
    c.nanoseconds.ensures.time (sym c.is_own.ensures ∙ c.if-is_own.true) (rw c.via_v6.ensures.value at takes))
    c.hear_packet.ensures

pub returns-else-is_own : goal.returns-else-is_own
returns-else-is_own c one told =
    hears_other c.args.select.now one c.args.told.now told c.in-Packet.packet (unwrap_or c.args.told.now.time 0) c.args.sources.now (ap packet_said c.in-Packet.is) refl
    (sym c.is_own.ensures ∙ c.if-is_own.false)

pub returns-in_default : goal.returns-in_default
returns-in_default c one told = hears_none c.args.select.now one c.args.told.now told c.args.sources.now (none_said c.args.told.now.said c.in_default.not-Packet)
