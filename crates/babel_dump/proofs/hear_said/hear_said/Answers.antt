use Rattle.std.proofs.Common.{[], ap, sym, ◌∙◌, rules, ◌≡◌, None, Some, subst}
use Rattle.std.proofs.lemmas.Result.{on_ok_weaker}
use Rattle.babel_capture.specs.Sinking.{IsPacketOf, packet_said}
use Rattle.babel_dump.proofs.EventsFollowed.{counts_told_so, ends_tell_so, silences_so}
use Rattle.babel_dump.proofs.HeardRecords.{hears_no_packet, hears_one_packet, hears_untimed}
use Rattle.babel_dump.specs.Followed.{RefusesUnheard}
use Rattle.babel_dump.proofs.EventCauses.{err_exit, if_err_so}
use Rattle.babel_dump.proofs.RefusedRecords.{record_refused}
use Rattle.babel_dump.proofs.PacketsFed.{none_said}
use Rattle.babel_dump.proofs.SpeakerLaws.{speaker_order}
use Rattle.babel_dump.proofs.hear_said.hear_said.Goals as goal

pub returns-in_default-clause-heard : goal.returns-in_default-clause-heard
returns-in_default-clause-heard c events via suits one told =
    let none : c.args.said.now.time ≡ None = search rules in
    rw c.requires (hears_untimed events one c.args.teller.now suits (sym told.time ∙ none))

pub returns-in_ok-expire-in_default-said-clause-heard : goal.returns-in_ok-expire-in_default-said-clause-heard
returns-in_ok-expire-in_default-said-clause-heard c events via suits one told =
    let time : c.args.said.now.time ≡ Some c.nanoseconds-time.result = search rules in
    let packet : IsPacketOf one.what None = subst (IsPacketOf one.what) (none_said c.args.said.now.said c.in_default-said.not-Packet) told.packet in
    hears_no_packet events one c.args.teller.now c.expire.new.self suits c.expire.ensures.same c.expire.ensures.limit c.expire.ensures.heard c.nanoseconds-time.result _ (sym told.time ∙ time) (sym packet.0)
    (ends_tell_so _ speaker_order events c.args.teller.now suits _ _ _ _ (rw c.requires at c.in_ok-expire-in_default-said.ensures.ok))
    (silences_so _ speaker_order events c.args.teller.now suits [] c.nanoseconds-time.result [] _ c.expire.new.self.watch (rw c.requires at c.in_ok-expire-in_default-said.ensures.silences))
    (counts_told_so _ speaker_order events c.args.teller.now suits [] _ (rw c.requires at c.in_ok-expire-in_default-said.ensures.holding))

pub returns-in-Packet-clause-heard : goal.returns-in-Packet-clause-heard
returns-in-Packet-clause-heard c events via suits =
    on_ok_weaker c.hear_packet.result
    (λ here one told.
    let time : c.args.said.now.time ≡ Some c.nanoseconds-time.result = search rules in
    let packet : IsPacketOf one.what (Some c.in-Packet.packet) = subst (IsPacketOf one.what) (ap packet_said c.in-Packet.is) told.packet in
    hears_one_packet events one c.args.teller.now c.hear_packet.new.teller c.nanoseconds-time.result c.in-Packet.packet.origin
    c.in-Packet.packet.octets.now _ (sym told.time ∙ time) (sym packet.0) (sym packet.1) (rw c.requires at here))
    (c.hear_packet.ensures.heard events via suits)

pub returns-in_err-expire-in_default-said-clause-refused : goal.returns-in_err-expire-in_default-said-clause-refused
returns-in_err-expire-in_default-said-clause-refused c events via suits =
    err_exit c.from_residual.result c.from_residual.ensures.1 (λ why memory. subst (RefusesUnheard events c.args.said.now c.args.teller.now) (sym memory) tt)

pub returns-in-Packet-clause-refused : goal.returns-in-Packet-clause-refused
returns-in-Packet-clause-refused c events via suits =
    let time : c.args.said.now.time ≡ Some c.nanoseconds-time.result = search rules in
    if_err_so c.hear_packet.result (record_refused events c.args.said.now c.args.teller.now c.in-Packet.packet (ap packet_said c.in-Packet.is) c.nanoseconds-time.result time)
    (c.hear_packet.ensures.refused events via suits)
