-- A Hello that is written is read back.
use Rattle.babel_tlv.proofs.HelloLaws.{hello_is_read}
use Rattle.babel_tlv.proofs.laws.hellos_are_read.Goals as goal

pub returns : goal.returns
returns c = hello_is_read
