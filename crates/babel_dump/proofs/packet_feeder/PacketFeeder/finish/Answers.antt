-- The fault of what was fed is that of what was heard.
use Rattle.std.proofs.Common.{rules}
use Rattle.babel_table.specs.DumpFault.{HasNoFault}
use Rattle.babel_table.specs.TableOf.{IsTableOf}
use Rattle.babel_dump.proofs.PacketsFed.{heard_fault, heard_whole}
use Rattle.babel_dump.proofs.packet_feeder.PacketFeeder.finish.Goals as goal

pub returns-in-Some-clause-fault : goal.returns-in-Some-clause-fault
returns-in-Some-clause-fault c = rw (← c.in_ok-feeder.ensures) (heard_fault c.in_ok-feeder.feeder c.finish_at.result c.finish_at.ensures.fault)

pub returns-in-None-clause-fault : goal.returns-in-None-clause-fault
returns-in-None-clause-fault c = rw (← c.in_ok-feeder.ensures) (heard_fault c.in_ok-feeder.feeder c.finish.result c.finish.ensures.fault)

pub returns-in-Some-clause-at : goal.returns-in-Some-clause-at
returns-in-Some-clause-at c = rw (← c.in_ok-feeder.ensures) (search rules)

pub returns-in-None-clause-whole : goal.returns-in-None-clause-whole
returns-in-None-clause-whole c =
    let f = c.in_ok-feeder.feeder in
    rw (← c.in_ok-feeder.ensures) (heard_whole _ (λ fed table. HasNoFault f.limits f.mode f.sender fed × IsTableOf f.limits f.mode f.sender fed table) f c.finish.result c.finish.ensures.ok)
