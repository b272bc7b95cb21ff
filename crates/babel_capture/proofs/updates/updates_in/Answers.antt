-- The counts stay below the octets of the body, and at its end they are those of all its TLVs.
use Rattle.std.proofs.Common.{arith}
use Rattle.babel_tlv.specs.Frames.{tlv_value}
use Rattle.babel_tlv.specs.Framing.{tlvs_of}
use Rattle.babel_tlv.specs.Left.{tlvs_left}
use Rattle.babel_capture.proofs.UpdateLaws.{octets-few, octets-step, update-step, updates-few}
use Rattle.babel_capture.proofs.updates.updates_in.Goals as goal

pub overflow_add-len : goal.overflow_add-len
overflow_add-len c =
    omega (
      arith,
      octets-step (tlvs_left c.loop-tlv.tlvs) (tlvs_left c.advance.new.self) (tlv_value c.in-Some.tlv) c.in-Some.ensures.next,
      octets-few 0 c.body_of-body.result.now,
      c.loop-tlv.invariant.octets,
      c.len_of-len.ensures,
    )

pub overflow_add-count : goal.overflow_add-count
overflow_add-count c =
    omega (
      arith,
      update-step (tlvs_left c.loop-tlv.tlvs) (tlvs_left c.advance.new.self) (tlv_value c.in-Some.tlv) c.in-Some.ensures.next c.if-tlv-eq-UPDATE.true,
      updates-few (tlvs_of 0 c.body_of-body.result.now),
      octets-few 0 c.body_of-body.result.now,
      c.loop-tlv.invariant.updates,
    )
