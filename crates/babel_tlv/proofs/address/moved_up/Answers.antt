-- A shift by 8 bits an octet is the product, and fits the family.
use Rattle.babel_tlv.proofs.FormLaws.{moved_up-is, moved_up-fits}
use Rattle.babel_tlv.proofs.address.moved_up.Goals as goal

pub returns-clause-value : goal.returns-clause-value
returns-clause-value c = rw c.octet_count.ensures (moved_up-is c.args.family c.args.number c.args.count c.requires.few c.requires.fits)

pub returns-clause-fits : goal.returns-clause-fits
returns-clause-fits c =
    rw (c.octet_count.ensures, moved_up-is c.args.family c.args.number c.args.count c.requires.few c.requires.fits)
    (moved_up-fits c.args.family c.args.number c.args.count c.requires.few c.requires.fits)
