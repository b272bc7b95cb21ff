use Rattle.babel_capture.proofs.PcapLaws.{pcap_is_read}
use Rattle.babel_capture.proofs.laws.pcap_is_read.Goals as goal

pub returns : goal.returns
returns c = pcap_is_read
