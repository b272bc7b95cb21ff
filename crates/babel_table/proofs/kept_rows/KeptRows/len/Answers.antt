-- The keys of IPv4 rise, and those of IPv6 come after them.
use Rattle.babel_table.proofs.KeptLaws.{rising-both}
use Rattle.babel_table.proofs.kept_rows.KeptRows.len.Goals as goal

pub returns-clause-rising : goal.returns-clause-rising
returns-clause-rising c =
    rw (← c.self.view_is) (rising-both c.self.inside.v4 c.self.inside.v6 c.self.invariant.0 c.self.invariant.1 c.len.ensures.rising c.len-2.ensures.rising)
