use Rattle.babel_capture.specs.Dumps.{dump_of}
use Rattle.babel_capture.proofs.FramingLaws.{framing_fine}
use Rattle.babel_capture.proofs.PacketLaws.{dump_packets}
use Rattle.babel_capture.proofs.laws.dump_is_framed.Goals as goal

pub returns : goal.returns
returns c limit octets gathering read = framing_fine (dump_of read.gathered.made) (dump_packets limit octets gathering read)
