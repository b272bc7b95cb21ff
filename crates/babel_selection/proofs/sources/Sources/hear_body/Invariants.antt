-- What was kept so far, with what the TLVs that are left announce, is all.
use Rattle.std.proofs.Common.{length}
use Rattle.babel_tlv.specs.Left.{tlvs_left}
use Rattle.babel_selection.specs.OwnUpdates.{updates_of}
use Rattle.babel_selection.proofs.OwnLaws.{HasHeard}
use Rattle.babel_selection.proofs.sources.Sources.hear_body.Given as goal

abbrev pub invariant-each : goal.invariant-each
invariant-each l = HasHeard l.fn.start l.time (updates_of l.fn.start l.time l.body) l.fn.self l.self l.state (tlvs_left l.tlvs)

abbrev pub decreases-each : goal.decreases-each
decreases-each l = length (tlvs_left l.tlvs)
