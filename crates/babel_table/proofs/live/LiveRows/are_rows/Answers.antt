-- The keys kept rise, and what is kept fits them.
use Rattle.babel_table.proofs.LiveLaws.{pairs-live_rows, rising-live_rows}
use Rattle.babel_table.proofs.live.LiveRows.are_rows.Goals as goal

pub returns : goal.returns
returns c = rw (← c.self.view_is) (record {
  rising = rising-live_rows c.self.inside.wipes c.self.inside.kept c.len.ensures.rising;
  each = pairs-live_rows c.self.inside.wipes c.self.inside.last c.self.inside.kept c.self.invariant.0;
})
