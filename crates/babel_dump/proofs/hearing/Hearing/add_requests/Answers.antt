-- All is added, or nothing.
use Rattle.std.proofs.Common.{false, rules, sym, true}
use Rattle.std.proofs.lemmas.List.{append-nil}
use Rattle.std.proofs.lemmas.Result.{on_ok_weaker}
use Rattle.babel_dump.proofs.HeardRequests.{asked_so}
use Rattle.babel_dump.proofs.hearing.Hearing.add_requests.Goals as goal

pub returns-then-not-tells_requests : goal.returns-then-not-tells_requests
returns-then-not-tells_requests c =
    asked_so c.args.events.now c.args.self.now.lost c.args.self.now.since.moment c.args.time c.args.packet.now.origin c.args.packet.now.destination.now c.args.packet.now.octets.now c.tells_requests.result c.tells_requests.ensures
    false (search rules) c.args.told.now.items _ (sym (append-nil _))

pub returns : goal.returns
returns c =
    on_ok_weaker c.tell_requests.result
    (λ is. asked_so c.args.events.now c.args.self.now.lost c.args.self.now.since.moment c.args.time c.args.packet.now.origin c.args.packet.now.destination.now c.args.packet.now.octets.now c.tells_requests.result
    c.tells_requests.ensures true (search rules) c.args.told.now.items _ is)
    (rw (c.via_v6.ensures.value, c.unicast-to.ensures) at c.tell_requests.ensures)
