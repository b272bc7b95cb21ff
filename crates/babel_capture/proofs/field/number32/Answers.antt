use Rattle.std.proofs.Common.{◌∙◌}
use Rattle.babel_capture.proofs.OctetLaws.{number-is}
use Rattle.babel_capture.proofs.field.number32.Goals as goal

pub returns : goal.returns
returns c = c.read_u32.ensures ∙ number-is 4 c.args.at c.args.octets.now
