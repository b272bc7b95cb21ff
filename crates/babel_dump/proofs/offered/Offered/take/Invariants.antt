-- The routes of the senders so far were taken, and the others are left.
use Rattle.babel_dump.proofs.SelectOffers.{Offering}
use Rattle.babel_dump.proofs.offered.Offered.take.Given as goal

abbrev pub invariant-loop-origin : goal.invariant-loop-origin
invariant-loop-origin l =
    Offering l.costs l.captured.each.now l.captured.read.now l.fn.tables.entries l.origin-iterator l.fn.self.offers.items l.self.offers.items
