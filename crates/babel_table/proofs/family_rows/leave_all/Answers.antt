-- One more row is changed.
use Rattle.std.proofs.Common.{add-one}
use Rattle.std.specs.Option.{option_and_then}
use Rattle.babel_table.specs.Live.{kept_at}
use Rattle.babel_table.proofs.ExpiredLaws.{changed-more}
use Rattle.babel_table.proofs.family_rows.leave_all.Goals as goal

pub loop-row-preserved : goal.loop-row-preserved
loop-row-preserved g c =
    rw (c.leave.ensures, c.loop-row.invariant, add-one)
    (changed-more (λ word. (word.0, option_and_then (kept_at c.args.moment.now) word.1)) c.args.rows.now c.loop-row.row-index c.row-item.result c.loop-row-test.true)
