-- A record's packet is heard, if it has one.
use Rattle.std.proofs.Common.{ap, sym, subst}
use Rattle.babel_capture.specs.Sinking.{packet_said}
use Rattle.babel_dump.specs.Fed.{HearsMore}
use Rattle.babel_dump.proofs.PacketsFed.{hears_both, none_more, none_said, packet_more}
use Rattle.babel_dump.proofs.packet_feeder.PacketFeederSink.take.Goals as goal

pub returns-in-Packet : goal.returns-in-Packet
returns-in-Packet c start made one is held =
    subst (HearsMore start.feeder c.feed.new.self.feeder) (sym (packet_more made one c.args.told.now c.in-Packet.packet is (ap packet_said c.in-Packet.is)))
    (hears_both start.feeder c.args.self.now.feeder c.feed.new.self.feeder _ _ held c.feed.ensures)

pub returns-in_default : goal.returns-in_default
returns-in_default c start made one is held =
    subst (HearsMore start.feeder c.args.self.now.feeder) (sym (none_more made one c.args.told.now is (none_said c.args.told.now.said c.in_default.not-Packet))) held
