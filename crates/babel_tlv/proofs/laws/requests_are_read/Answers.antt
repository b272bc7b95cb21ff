-- A request that is written is read back.
use Rattle.babel_tlv.proofs.RequestLaws.{route_is_requested, seqno_is_requested}
use Rattle.babel_tlv.proofs.laws.requests_are_read.Goals as goal

pub returns-clause-route : goal.returns-clause-route
returns-clause-route c = route_is_requested

pub returns-clause-seqno : goal.returns-clause-seqno
returns-clause-seqno c = seqno_is_requested
