-- A sub-TLV that can be read goes on what was read.
use Rattle.std.proofs.Common.{ℕ, Some, subst, arith}
use Rattle.babel_tlv.specs.Left.{BeginsTlv}
use Rattle.babel_tlv.proofs.SubTlvLaws.{SubTlvsSoFar-on, optional_read}
use Rattle.babel_tlv.proofs.sub_tlv.read_sub_tlvs.Goals as goal

pub loop-rest-preserved-in_ok-source : goal.loop-rest-preserved-in_ok-source
loop-rest-preserved-in_ok-source c =
    let is : BeginsTlv c.loop-rest.rest.now 128 c.in-Some.body.now c.in-Some.behind.now =
    subst (λ (k : ℕ). BeginsTlv c.loop-rest.rest.now k c.in-Some.body.now c.in-Some.behind.now) c.if-kind.true c.in-Some.ensures in
    SubTlvsSoFar-on c.args.place c.args.octets.now c.loop-rest.rest.now c.in-Some.behind.now c.loop-rest.source (Some c.in_ok-source.field-0) 128 c.in-Some.body.now
    c.loop-rest.invariant is c.in_ok-source.ensures

pub loop-rest-preserved : goal.loop-rest-preserved
loop-rest-preserved c =
    SubTlvsSoFar-on c.args.place c.args.octets.now c.loop-rest.rest.now c.in-Some.behind.now c.loop-rest.source c.loop-rest.source c.in-Some.kind c.in-Some.body.now
    c.loop-rest.invariant c.in-Some.ensures (optional_read c.args.place c.loop-rest.source c.in-Some.kind c.in-Some.body.now (omega arith))
