use Rattle.std.proofs.Common.{◌≡◌, ◌+◌, length}
use Rattle.std.specs.Prelude.{None, count_by}
use Rattle.std.specs.List.{flat_map}
use Rattle.babel_tlv.specs.Framing.{tlv_octets, tlvs_of}
use Rattle.babel_tlv.specs.Left.{tlvs_left}
use Rattle.babel_capture.specs.Updates.{greatest_of, is_update}
use Rattle.babel_capture.proofs.updates.updates_in.Given as goal

abbrev pub invariant-loop-tlv : goal.invariant-loop-tlv
invariant-loop-tlv l = record {
  updates : l.count + count_by is_update (tlvs_left l.tlvs) ≡ count_by is_update (tlvs_of 0 l.body);
  interval : greatest_of l.interval (tlvs_left l.tlvs) ≡ greatest_of None (tlvs_of 0 l.body);
  octets : l.len + length (flat_map tlv_octets (tlvs_left l.tlvs)) ≡ length (flat_map tlv_octets (tlvs_of 0 l.body));
}

abbrev pub decreases-loop-tlv : goal.decreases-loop-tlv
decreases-loop-tlv l = length (tlvs_left l.tlvs)
