use Rattle.babel_dump.proofs.EventsFollowed.{hears_packet}
use Rattle.babel_dump.proofs.RefusedRecords.{refuses_part, teller_refuses}
use Rattle.babel_dump.proofs.SpeakerLaws.{speaker_order}
use Rattle.babel_dump.proofs.hear_said.hear_packet.Goals as goal

pub returns-in-Ok-clause-heard : goal.returns-in-Ok-clause-heard
returns-in-Ok-clause-heard c events via suits =
    hears_packet _ speaker_order events c.args.teller.now suits c.args.packet.now.origin c.args.via_v6 via c.args.time _ c.args.packet.now.octets.now c.hear.new.self _ _ c.hear.ensures.same c.hear.ensures.limit
    c.in-Ok.ensures.ok c.in-Ok.ensures.counts c.in-Ok.ensures.silences c.in-Ok.ensures.holding

pub returns-in-Err-clause-refused : goal.returns-in-Err-clause-refused
returns-in-Err-clause-refused c events via suits =
    let teller = c.args.teller.now in
    teller_refuses events c.args.packet.now.origin c.args.time c.args.packet.now.octets.now teller c.of.result c.in-Err.fault c.of.ensures.memory c.of.ensures.sender
    (λ not_memory. refuses_part _ speaker_order events teller suits c.args.packet.now.origin c.args.via_v6 via c.args.time c.args.packet.now.octets.now _ _ _ c.in-Err.fault
    (c.in-Err.ensures.refused not_memory))
