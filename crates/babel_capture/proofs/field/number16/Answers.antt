use Rattle.std.proofs.Common.{◌∙◌}
use Rattle.babel_capture.proofs.OctetLaws.{number-is}
use Rattle.babel_capture.proofs.field.number16.Goals as goal

pub returns : goal.returns
returns c = c.read_u16.ensures ∙ number-is 2 c.args.at c.args.octets.now
