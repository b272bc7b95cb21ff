-- What is left leads to what is heard of all.
use Rattle.std.proofs.Common.{length}
use Rattle.babel_tlv.specs.Left.{tlvs_left}
use Rattle.babel_selection.specs.HeardLinks.{whole_tlvs}
use Rattle.babel_selection.proofs.HeardLaws.{HearsRest}
use Rattle.babel_selection.proofs.link_hearing.LinkHearing.hear.Given as goal

abbrev pub invariant-loop-tlv : goal.invariant-loop-tlv
invariant-loop-tlv g l = HearsRest g.S.Ord.cmp g.S.LinkNode.beside l.node l.destination l.time (whole_tlvs l.packet) (tlvs_left l.tlvs) l.fn.self l.self

abbrev pub decreases-loop-tlv : goal.decreases-loop-tlv
decreases-loop-tlv g l = length (tlvs_left l.tlvs)
