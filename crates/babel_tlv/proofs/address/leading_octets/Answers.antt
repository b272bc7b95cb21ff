-- A shift by 8 bits an octet leaves the number of the first octets.
use Rattle.babel_tlv.proofs.FormLaws.{leading-is, leading-fits}
use Rattle.babel_tlv.proofs.address.leading_octets.Goals as goal

pub returns-clause-value : goal.returns-clause-value
returns-clause-value c = rw (c.bits.ensures.value, c.octet_count.ensures, c.family.ensures) (leading-is c.args.addr.family c.args.addr.bits c.args.count c.requires c.bits.ensures.fits)

pub returns-clause-fits : goal.returns-clause-fits
returns-clause-fits c = rw (c.bits.ensures.value, c.octet_count.ensures, c.family.ensures) (leading-fits c.args.addr.family c.args.addr.bits c.args.count c.requires c.bits.ensures.fits)
