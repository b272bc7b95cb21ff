-- The first TLV that is left is then read.
use Rattle.std.proofs.Common.{refl}
use Rattle.babel_tlv.proofs.Reading.{tlvs_of-begins}
use Rattle.babel_tlv.proofs.LeftLaws.{read-next}
use Rattle.babel_tlv.proofs.tlvs.Tlvs.advance.Goals as goal

pub returns-clause-next : goal.returns-clause-next
returns-clause-next c =
    tlvs_of-begins c.args.self.now.at c.args.self.now.octets.now c.in_ok-kind.kind c.in_ok-kind.body.now c.in_ok-kind.behind.now c.in_ok-kind.ensures

pub returns-clause-read : goal.returns-clause-read
returns-clause-read c = read-next c.args.self.now _ c.in_ok-kind.kind c.in_ok-kind.body.now c.in_ok-kind.ensures refl
