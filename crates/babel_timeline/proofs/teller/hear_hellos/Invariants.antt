-- Only senders that return were told, and the Hellos of the TLVs that were read were taken.
use Rattle.std.proofs.Common.{◌≡◌, ◌++◌, List, None, length}
use Rattle.babel_tlv.specs.Left.{tlvs_left}
use Rattle.babel_table.specs.Moments.{Stamp}
use Rattle.babel_timeline.specs.SilencesTold.{TellsOnlyReturns, TellsReturns, hellos_among, hellos_heard}
use Rattle.babel_timeline.specs.Telling.{of_rows}
use Rattle.babel_timeline.proofs.teller.hear_hellos.Given as goal

abbrev pub invariant-loop-tlv : goal.invariant-loop-tlv
invariant-loop-tlv g l = record {
  rows : of_rows None l.told.items ≡ of_rows None l.fn.told.items;
  only : TellsOnlyReturns l.time l.fn.told.items l.told.items;
  returns : (more : List (g.row.S.Denot × Stamp)) × (more ++ hellos_among l.sender l.time (tlvs_left l.tlvs) ≡ hellos_heard l.sender l.time l.packet)
      × TellsReturns g.S.Ord.cmp more l.time l.fn.told.items l.told.items l.fn.watch l.watch;
}

abbrev pub decreases-loop-tlv : goal.decreases-loop-tlv
decreases-loop-tlv g l = length (tlvs_left l.tlvs)
