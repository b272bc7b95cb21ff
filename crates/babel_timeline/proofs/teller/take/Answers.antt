-- The TLVs of the body are those of the packet.
use Rattle.std.proofs.Common.{◌+◌, ◌<◌, ◌≤◌, ◌^◌, arith, inl, inr, length, refl, rules}
use Rattle.std.proofs.lemmas.Result.{err_from_is_err_and}
use Rattle.babel_timeline.proofs.HearingLaws.{counts_at}
use Rattle.babel_timeline.proofs.RefusedLaws.{body_refused, if_err_so, untaken}
use Rattle.babel_timeline.proofs.teller.take.Goals as goal

pub returns-clause-counts : goal.returns-clause-counts
returns-clause-counts g c =
    counts_at c.take_body.result c.args.heard.now.octets c.args.start.now c.args.packet.now c.in_ok-body.body.now c.args.heard.now.report c.take_body.new.report c.in_ok-body.ensures.ok c.take_body.ensures.whole c.take_body.ensures.counts

pub returns-in_default-clause-refused : goal.returns-in_default-clause-refused
returns-in_default-clause-refused g c = λ not_memory.
    let over : 2 ^ 64 ≤ c.args.heard.now.octets + length c.args.packet.now = search (rules, arith) in
    untaken g.S.Ord.cmp g.met.S.Ord.total g.met.S.Sender.exact c.args.timeline.now.factor c.args.interest.now.asked c.args.timeline.now.limit
    c.args.interest.now.view c.args.sender c.args.start.now c.args.time c.args.heard.now.octets c.args.heard.now.report.tlvs c.args.packet.now
    c.args.timeline.now.rows c.args.told.now.items _ c.requires.last (inl (refl, refl, inl over))

pub returns-then-tlvs-at-clause-refused : goal.returns-then-tlvs-at-clause-refused
returns-then-tlvs-at-clause-refused g c = λ not_memory.
    let more : c.args.heard.now.octets < c.args.heard.now.report.tlvs = omega (arith, c.if-tlvs-at.true, c.tlvs.ensures) in
    untaken g.S.Ord.cmp g.met.S.Ord.total g.met.S.Sender.exact c.args.timeline.now.factor c.args.interest.now.asked c.args.timeline.now.limit
    c.args.interest.now.view c.args.sender c.args.start.now c.args.time c.args.heard.now.octets c.args.heard.now.report.tlvs c.args.packet.now
    c.args.timeline.now.rows c.args.told.now.items _ c.requires.last (inl (refl, refl, inr more))

pub returns-in_err-body-clause-refused : goal.returns-in_err-body-clause-refused
returns-in_err-body-clause-refused g c =
    let exit = err_from_is_err_and c.from_residual.result c.from_residual.ensures.1 in
    rw (exit.1, exit.2) (λ not_memory.
    untaken g.S.Ord.cmp g.met.S.Ord.total g.met.S.Sender.exact c.args.timeline.now.factor c.args.interest.now.asked c.args.timeline.now.limit
    c.args.interest.now.view c.args.sender c.args.start.now c.args.time c.args.heard.now.octets c.args.heard.now.report.tlvs c.args.packet.now
    c.args.timeline.now.rows c.args.told.now.items _ c.requires.last (inr (inl (refl, c.in_err-body.ensures.err))))

pub returns-clause-refused : goal.returns-clause-refused
returns-clause-refused g c =
    if_err_so c.take_body.result (λ fault refused not_memory.
    body_refused g.S.Ord.cmp g.met.S.Ord.total g.met.S.Sender.exact c.args.timeline.now.factor c.args.interest.now.asked c.args.timeline.now.limit
    c.args.interest.now.view c.args.sender c.args.start.now c.args.time c.args.heard.now.octets c.args.heard.now.report.tlvs c.args.packet.now
    c.in_ok-body.body.now c.args.timeline.now c.take_body.new.timeline c.args.told.now.items c.take_body.new.told.items fault c.requires.last c.in_ok-body.ensures.ok (refused not_memory)) c.take_body.ensures.refused
