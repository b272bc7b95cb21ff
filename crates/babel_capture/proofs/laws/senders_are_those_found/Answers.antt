-- The senders of a capture are those of whom a packet was found.
use Rattle.babel_capture.proofs.SenderLaws.{senders_read}
use Rattle.babel_capture.proofs.laws.senders_are_those_found.Goals as goal

pub returns : goal.returns
returns c = senders_read
