use Rattle.std.proofs.Common.{◌≡◌, [], rules, sym, ◌∙◌}
use Rattle.babel_tlv.specs.Frames.{tlv_value}
use Rattle.babel_tlv.specs.Framing.{tlvs_of}
use Rattle.babel_tlv.specs.Left.{tlvs_left}
use Rattle.babel_selection.specs.OwnUpdates.{updates_of}
use Rattle.babel_selection.proofs.OwnLaws.{begins, ends, ends_refused, goes_on, on_ok_at}
use Rattle.babel_selection.proofs.sources.Sources.hear_body.Goals as goal

pub each-init : goal.each-init
each-init c = begins c.args.start c.args.time c.args.self.now c.at-state.result (tlvs_of 0 c.args.body.now) (tlvs_left c.new-tlvs.result) c.at-state.ensures c.new-tlvs.ensures.left

pub each-preserved : goal.each-preserved
each-preserved c =
    goes_on c.args.start c.args.time (updates_of c.args.start c.args.time c.args.body.now) c.args.self.now c.each.self c.hear_event.new.self
    c.each.state c.step.new.self (tlv_value c.in-Some.tlv) (tlvs_left c.each.tlvs) (tlvs_left c.advance.new.self) c.in-Ok.event
    c.in-Some.ensures.next (sym c.in-Ok.is ∙ c.step.ensures.said) (on_ok_at c.step.result c.in-Ok.event c.in-Ok.is c.step.ensures.state) c.in_ok-hear_event-in-Ok.ensures c.each.invariant

pub returns-in-Err : goal.returns-in-Err
returns-in-Err c =
    ends_refused c.args.start c.args.time (updates_of c.args.start c.args.time c.args.body.now) c.args.self.now c.each.self c.each.state (tlv_value c.in-Some.tlv) (tlvs_left c.each.tlvs)
    (tlvs_left c.advance.new.self) _ c.in-Some.ensures.next (sym c.in-Err.is ∙ c.step.ensures.said) c.each.invariant

pub returns : goal.returns
returns c =
    let none : tlvs_left c.each.tlvs ≡ [] = search rules in
    ends c.args.start c.args.time (updates_of c.args.start c.args.time c.args.body.now) c.args.self.now c.each.self c.each.state (tlvs_left c.each.tlvs) none c.each.invariant
