use Rattle.babel_capture.proofs.PcapLaws.{packets_are_one}
use Rattle.babel_capture.proofs.laws.packets_are_one.Goals as goal

pub returns : goal.returns
returns c = packets_are_one
