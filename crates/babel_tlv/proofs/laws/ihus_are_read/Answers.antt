-- An IHU that is written is read back.
use Rattle.babel_tlv.proofs.IhuLaws.{ihu_is_read}
use Rattle.babel_tlv.proofs.laws.ihus_are_read.Goals as goal

pub returns : goal.returns
returns c = ihu_is_read
