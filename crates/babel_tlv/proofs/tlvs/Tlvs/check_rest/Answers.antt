-- What is read, and what is left of it, are the whole body.
use Rattle.babel_tlv.proofs.LeftLaws.{checked-whole, checked-past_end}
use Rattle.babel_tlv.proofs.tlvs.Tlvs.check_rest.Goals as goal

pub returns-clause-whole : goal.returns-clause-whole
returns-clause-whole c = checked-whole c.args.self.now c.check_body.result c.check_body.ensures

pub returns-clause-past_end : goal.returns-clause-past_end
returns-clause-past_end c = checked-past_end c.args.self.now c.check_body.result c.check_body.ensures
