use Rattle.babel_capture.proofs.PcapngLaws.{pcapng_is_read}
use Rattle.babel_capture.proofs.laws.pcapng_is_read.Goals as goal

pub returns : goal.returns
returns c = pcapng_is_read
