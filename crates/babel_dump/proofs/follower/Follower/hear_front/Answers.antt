use Rattle.babel_dump.proofs.EventCauses.{err_exit, if_err_so}
use Rattle.babel_dump.proofs.RefusedRecords.{front_memory, front_refused}
-- What was heard is a packet of the first octets of the body.
use Rattle.std.proofs.Common.{◌≡◌, ℕ, ◌+◌, ◌-◌, take, drop, refl, ap, ◌∙◌, arith}
use Rattle.std.proofs.lemmas.Result.{on_ok_weaker}
use Rattle.babel_capture.specs.declared.sink.BabelPacket.{BabelPacket}
use Rattle.babel_capture.specs.declared.sink.Record.{Record}
use Rattle.babel_capture.specs.declared.sink.Said.TheVariants as saids
use Rattle.babel_tlv.specs.Framing.{framed}
use Rattle.babel_dump.proofs.follower.Follower.hear_front.Goals as goal

pub returns-clause-heard : goal.returns-clause-heard
returns-clause-heard c =
    let packet : BabelPacket = record { origin = c.args.packet.now.origin; destination = c.args.packet.now.destination; octets = c.deref.result } in
    let front : Record = record { number = c.args.told.now.number; time = c.args.told.now.time; said = saids.Packet packet } in
    let size : 4 + c.args.before - 4 ≡ c.args.before = omega arith in
    let octets = c.deref.ensures.value ∙ c.in_ok-octets.ensures ∙ ap (λ (n : ℕ). framed (take n (drop 4 c.args.packet.now.octets.now))) size in
    on_ok_weaker c.hear_whole.result (λ heard. (front, heard, refl, refl, (packet, refl, refl, octets))) c.hear_whole.ensures.heard

pub returns-clause-refused : goal.returns-clause-refused
returns-clause-refused c suits =
    let packet : BabelPacket = record { origin = c.args.packet.now.origin; destination = c.args.packet.now.destination; octets = c.deref.result } in
    let front : Record = record { number = c.args.told.now.number; time = c.args.told.now.time; said = saids.Packet packet } in
    let size : 4 + c.args.before - 4 ≡ c.args.before = omega arith in
    let octets = c.deref.ensures.value ∙ c.in_ok-octets.ensures ∙ ap (λ (n : ℕ). framed (take n (drop 4 c.args.packet.now.octets.now))) size in
    if_err_so c.hear_whole.result (λ why refuses. front_refused c.args.self.now.events.now c.args.told.now front c.args.packet.now packet _ c.args.self.now.hearing.teller refl refl refl octets why refuses)
    (c.hear_whole.ensures.refused suits)

pub returns-in_err-octets-clause-refused : goal.returns-in_err-octets-clause-refused
returns-in_err-octets-clause-refused c suits =
    err_exit c.from_residual.result c.from_residual.ensures.1 (λ why memory. front_memory c.args.self.now.events.now c.args.told.now c.args.packet.now _ c.args.self.now.hearing.teller why memory)
