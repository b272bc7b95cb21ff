-- Each TLV is read, and counted, up to the first that is ignored.
use Rattle.std.proofs.Common.{◌≡◌, ◌≤◌, ◌-◌, refl, arith, ap, sym, subst, length, rules}
use Rattle.babel_tlv.specs.EventKinds.{event_of}
use Rattle.babel_tlv.specs.Framing.{tlvs_of}
use Rattle.babel_tlv.specs.Frames.{tlv_value}
use Rattle.babel_tlv.specs.Left.{tlvs_left}
use Rattle.babel_table.specs.Counts.{Counts}
use Rattle.babel_table.proofs.TookLaws.{length-tlvs_of}
use Rattle.babel_dump.specs.Ignored.{IgnoresNone}
use Rattle.babel_dump.proofs.UnreadTlvs.{none_of_none, not_before, read_more, read_none, read_refused, refused_here}
use Rattle.babel_dump.proofs.EventCauses.{err_exit}
use Rattle.babel_dump.specs.EventsCause.{RefusesTlvIn}
use Rattle.babel_dump.proofs.unread_tlv.UnreadTlv.first_in.Goals as goal

pub loop-next-init : goal.loop-next-init
loop-next-init c = record {
  to = read_none c.args.start.now (tlvs_of c.args.at c.args.body.now) (tlvs_left c.new-tlvs.result) c.at-state.result c.new-report.result c.at-state.ensures c.new-tlvs.ensures.left c.new-report.ensures;
  none = subst IgnoresNone (sym c.new-report.ensures) none_of_none;
  room = (let le : length (tlvs_left c.new-tlvs.result) ≤ length c.args.body.now = rw c.new-tlvs.ensures.left (length-tlvs_of c.args.at c.args.body.now) in
      let zero : c.new-report.result.tlvs ≡ 0 = ap (λ (n : Counts). n.tlvs) c.new-report.ensures in omega arith);
}

pub count-requires : goal.count-requires
count-requires c = omega (arith, ap length c.in-Some.ensures.next, c.loop-next.invariant.room, c.requires.fits)

pub overflow_sub-result : goal.overflow_sub-result
overflow_sub-result c =
    not_before c.args.start.now (tlvs_of c.args.at c.args.body.now) c.loop-next.state (tlv_value c.in-Some.next) (event_of c.in_ok-kind.kind c.step_into.new.route) (tlvs_left c.loop-next.tlvs) (tlvs_left c.advance.new.self) c.loop-next.report c.count.new.self
    c.loop-next.invariant.to c.in-Some.ensures.next c.in_ok-kind.ensures.said (c.count.ensures c.step_into.new.route) c.args.at c.requires.whole.placed

pub returns-in-Some-first_ignored-clause-first : goal.returns-in-Some-first_ignored-clause-first
returns-in-Some-first_ignored-clause-first c =
    refused_here c.args.start.now (tlvs_of c.args.at c.args.body.now) c.loop-next.state (tlv_value c.in-Some.next) (event_of c.in_ok-kind.kind c.step_into.new.route) (tlvs_left c.loop-next.tlvs) (tlvs_left c.advance.new.self) c.loop-next.report c.count.new.self
    c.loop-next.invariant.to c.in-Some.ensures.next c.in_ok-kind.ensures.said (c.count.ensures c.step_into.new.route) c.args.at c.requires.whole.placed c.loop-next.invariant.none
    (record { before = c.in-Some.next.at - c.args.at; tlv = c.in-Some-first_ignored.tlv; ignores_encoding_4 = c.ignores_encoding_4.result }) (search rules) c.ignores_encoding_4.ensures refl

pub loop-next-preserved : goal.loop-next-preserved
loop-next-preserved c = record {
  to = read_more c.args.start.now (tlvs_of c.args.at c.args.body.now) c.loop-next.state (tlv_value c.in-Some.next) (event_of c.in_ok-kind.kind c.step_into.new.route) (tlvs_left c.loop-next.tlvs) (tlvs_left c.advance.new.self) c.loop-next.report c.count.new.self
      c.loop-next.invariant.to c.in-Some.ensures.next c.in_ok-kind.ensures.said (c.count.ensures c.step_into.new.route) c.step_into.new.self c.in_ok-kind.ensures.state;
  none = search rules;
  room = omega (arith, ap length c.in-Some.ensures.next, ap (λ (n : Counts). n.tlvs) (c.count.ensures c.step_into.new.route), c.loop-next.invariant.room);
}

pub returns-in_err-kind-clause-refused : goal.returns-in_err-kind-clause-refused
returns-in_err-kind-clause-refused c =
    err_exit c.from_residual.result c.from_residual.ensures.1 (λ fault same. subst (RefusesTlvIn c.args.start.now (tlvs_of c.args.at c.args.body.now)) (sym same)
    (read_refused c.args.start.now (tlvs_of c.args.at c.args.body.now) c.loop-next.state (tlv_value c.in-Some.next) (tlvs_left c.loop-next.tlvs) (tlvs_left c.advance.new.self) c.loop-next.report _
    c.loop-next.invariant.to c.in-Some.ensures.next c.in_err-kind.ensures.said))
