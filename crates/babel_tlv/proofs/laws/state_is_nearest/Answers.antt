-- The router-id is that of the nearest TLV that sets one.
use Rattle.babel_tlv.proofs.NearestLaws.{router_id_is_nearest}
use Rattle.babel_tlv.proofs.laws.state_is_nearest.Goals as goal

pub returns-clause-router_id : goal.returns-clause-router_id
returns-clause-router_id c = router_id_is_nearest
