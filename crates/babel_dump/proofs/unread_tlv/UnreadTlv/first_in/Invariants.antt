-- Some TLVs were read, of which none is ignored.
use Rattle.std.proofs.Common.{◌+◌, ◌≤◌, length}
use Rattle.babel_tlv.specs.Framing.{tlvs_of}
use Rattle.babel_tlv.specs.Left.{tlvs_left}
use Rattle.babel_dump.specs.Ignored.{IgnoresNone}
use Rattle.babel_dump.proofs.UnreadTlvs.{ReadTo}
use Rattle.babel_dump.proofs.unread_tlv.UnreadTlv.first_in.Given as goal

abbrev pub invariant-loop-next : goal.invariant-loop-next
invariant-loop-next l = record {
  to : ReadTo l.start (tlvs_of l.at l.body) l.state (tlvs_left l.tlvs) l.report;
  none : IgnoresNone l.report;
  room : l.report.tlvs + length (tlvs_left l.tlvs) ≤ length l.body;
}

abbrev pub decreases-loop-next : goal.decreases-loop-next
decreases-loop-next l = length (tlvs_left l.tlvs)
