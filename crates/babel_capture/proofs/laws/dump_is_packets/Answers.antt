use Rattle.babel_capture.proofs.PacketLaws.{dump_packets}
use Rattle.babel_capture.proofs.laws.dump_is_packets.Goals as goal

pub returns : goal.returns
returns c = dump_packets
