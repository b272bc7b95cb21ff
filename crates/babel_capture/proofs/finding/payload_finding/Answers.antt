use Rattle.babel_capture.proofs.FindingLaws.{packet_found}
use Rattle.babel_capture.proofs.finding.payload_finding.Goals as goal

pub returns-in-Whole : goal.returns-in-Whole
returns-in-Whole c = packet_found c.args.place c.args.ends.now c.args.payload.now c.in-Whole.body.now c.in-Whole.used c.in-Whole.ensures.0 c.in-Whole.ensures.1
