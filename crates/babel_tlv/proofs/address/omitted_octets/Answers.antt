-- Without a default prefix no octet is omitted, and the number is 0.
use Rattle.babel_tlv.proofs.FormLaws.{pow_256-pos}
use Rattle.babel_tlv.proofs.address.omitted_octets.Goals as goal

pub returns-in-None-clause-fits : goal.returns-in-None-clause-fits
returns-in-None-clause-fits c = pow_256-pos c.args.count
