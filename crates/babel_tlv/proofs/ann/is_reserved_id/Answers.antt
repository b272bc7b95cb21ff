-- Eight octets are all one exactly if their number is the greatest.
use Rattle.std.proofs.Common.{rules}
use Rattle.babel_tlv.proofs.IdLaws.{reserved_else}
use Rattle.babel_tlv.proofs.ann.is_reserved_id.Goals as goal

pub returns-else-bits-eq0 : goal.returns-else-bits-eq0
returns-else-bits-eq0 c = reserved_else c.args.id c.from_be_bytes-bits.result (search rules) (λ i. search rules) c.from_be_bytes-bits.ensures c.if-bits-eq0.false
