-- It is the least under those so far.
use Rattle.std.proofs.Common.{◌≡◌, take}
use Rattle.babel_dump.specs.SelectKept.{said_kept}
use Rattle.babel_dump.specs.SelectOffers.{heard_cost}
use Rattle.babel_dump.proofs.link_costs.LinkCosts.heard.Given as goal

abbrev pub invariant-loop-router : goal.invariant-loop-router
invariant-loop-router l = l.least
    ≡ heard_cost l.self.select.now.is_etx (said_kept l.self.judged l.self.links.now.ihus) l.self.gathered.now.senders l.origin (take l.router-index l.router-items)
