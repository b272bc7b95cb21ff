-- Row by row.
use Rattle.babel_dump.specs.SelectOffers.{offered}
use Rattle.babel_dump.proofs.SelectOffers.{offers_next}
use Rattle.babel_dump.proofs.offered.Offered.offer.Goals as goal

pub loop-key-preserved : goal.loop-key-preserved
loop-key-preserved c =
    offers_next (offered c.is_router-is_own.result c.speaker_at-by.result c.of-cost.result) (c.in-Some.key, c.in-Some.held) _ _ c.loop-key.self.offers.items c.push_offered.new.offers.items _ _
    c.in-Some.ensures.steps c.loop-key.invariant c.offer_of_row.ensures c.in_ok-push_offered.ensures
