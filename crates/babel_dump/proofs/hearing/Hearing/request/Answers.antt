-- What the packet that is told requests is what its record does.
use Rattle.std.proofs.Common.{◌≡◌, ◌++◌, ◌∙◌, None, Some, ap, rules, sym}
use Rattle.std.proofs.lemmas.Result.{on_ok_weaker}
use Rattle.babel_capture.specs.Sinking.{packet_said}
use Rattle.babel_dump.specs.EventsRun.{told_from}
use Rattle.babel_dump.specs.Followed.{unlost_by}
use Rattle.babel_dump.proofs.EventsRuns.{Tellings}
use Rattle.babel_dump.proofs.HeardRequests.{requests_none, requests_of, requests_untimed, told_still}
use Rattle.babel_dump.proofs.PacketsFed.{none_said}
use Rattle.babel_dump.proofs.hearing.Hearing.request.Goals as goal

pub returns-in_default : goal.returns-in_default
returns-in_default c = λ one told.
    let none : c.args.said.now.time ≡ None = search rules in
    told_still c.args.self.now.lost c.args.self.now.since.moment c.args.told.now.items _ (requests_untimed c.args.events.now one c.args.said.now told none)

pub returns-in_default-said : goal.returns-in_default-said
returns-in_default-said c = λ one told.
    told_still c.args.self.now.lost c.args.self.now.since.moment c.args.told.now.items _ (requests_none c.args.events.now one c.args.said.now told (none_said c.args.said.now.said c.in_default-said.not-Packet))

pub returns-in-Packet : goal.returns-in-Packet
returns-in-Packet c =
    on_ok_weaker c.add_requests.result
    (λ is one told.
    let time : c.args.said.now.time ≡ Some c.nanoseconds-time.result = search rules in
    is ∙ ap (λ (t : Tellings). c.args.told.now.items ++ unlost_by c.args.self.now.lost (told_from c.args.self.now.since.moment t))
    (sym (requests_of c.args.events.now one c.args.said.now c.nanoseconds-time.result c.in-Packet.packet told time (ap packet_said c.in-Packet.is))))
    c.add_requests.ensures
