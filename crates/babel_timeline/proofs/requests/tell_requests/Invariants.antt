-- What was told, and what the TLVs that are left request, is all that the packet requests.
use Rattle.std.proofs.Common.{◌≡◌, ◌++◌, length, map}
use Rattle.std.specs.List.{filter_map}
use Rattle.babel_tlv.specs.Left.{tlvs_left}
use Rattle.babel_tlv.specs.Requests.{requested}
use Rattle.babel_timeline.specs.RequestsTold.{requests_told}
use Rattle.babel_timeline.specs.declared.telling.Telling.TheVariants as tellings
use Rattle.babel_timeline.proofs.requests.tell_requests.Given as goal

abbrev pub invariant-loop-tlv : goal.invariant-loop-tlv
invariant-loop-tlv g l = l.told.items ++ map (tellings.Request l.time l.sender l.to) (filter_map (requested l.via_v6) (tlvs_left l.tlvs))
    ≡ l.fn.told.items ++ requests_told l.via_v6 l.sender l.to l.time l.packet

abbrev pub decreases-loop-tlv : goal.decreases-loop-tlv
decreases-loop-tlv g l = length (tlvs_left l.tlvs)
