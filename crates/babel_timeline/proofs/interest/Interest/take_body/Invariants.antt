-- The TLVs so far are taken.
use Rattle.std.proofs.Common.{length, ◌+◌, ◌≤◌}
use Rattle.babel_tlv.specs.Framing.{tlvs_of}
use Rattle.babel_tlv.specs.Left.{tlvs_left}
use Rattle.babel_timeline.specs.Taking.{KeepsBounds}
use Rattle.babel_timeline.proofs.HearingLaws.{CountsTo}
use Rattle.babel_timeline.proofs.RefusedLaws.{TakenTo}
use Rattle.babel_timeline.proofs.TakingLaws.{TlvsTo}
use Rattle.babel_timeline.proofs.interest.Interest.take_body.Given as goal

abbrev pub invariant-loop-tlv : goal.invariant-loop-tlv
invariant-loop-tlv g l = record {
  bounds : KeepsBounds l.fn.timeline l.timeline;
  to : TlvsTo g.S.Ord.cmp l.fn.timeline.factor l.self.asked l.self.view l.sender l.time l.start (tlvs_of l.at l.body) l.fn.timeline.rows l.fn.told.items l.state (tlvs_left l.tlvs)
      l.timeline.rows l.told.items;
  taken : TakenTo g.S.Ord.cmp l.fn.timeline.factor l.self.asked l.self.view l.sender l.time l.start (tlvs_of l.at l.body) l.fn.timeline.rows l.fn.told.items l.state (tlvs_left l.tlvs)
      l.timeline.rows l.told.items;
  room : l.report.tlvs + length (tlvs_left l.tlvs) ≤ l.fn.report.tlvs + length l.body;
  counts : CountsTo l.start (tlvs_of l.at l.body) l.fn.report l.state (tlvs_left l.tlvs) l.report;
}

abbrev pub decreases-loop-tlv : goal.decreases-loop-tlv
decreases-loop-tlv g l = length (tlvs_left l.tlvs)
