use Rattle.babel_capture.proofs.PacketLaws.{in_sight}
use Rattle.babel_capture.proofs.laws.found_is_a_packet.Goals as goal

pub returns : goal.returns
returns c = in_sight
