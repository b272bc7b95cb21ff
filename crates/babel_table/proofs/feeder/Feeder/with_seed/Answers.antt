-- A feeder that was fed nothing has taken nothing, by its settings.
use Rattle.std.proofs.Common.{ap, refl}
use Rattle.babel_table.specs.Live.{Live}
use Rattle.babel_table.proofs.FeedLaws.{taken-none}
use Rattle.babel_table.proofs.feeder.Feeder.with_seed.Goals as goal

pub returns-clause-ok : goal.returns-clause-ok
returns-clause-ok c =
    let rows = c.new-rows.result in
    let is = c.new-rows.ensures in (
      taken-none c.args.limits rows.mode c.args.sender rows.rows c.new-report.result c.in_ok-pending.pending rows.runs rows.factor rows.when.time rows.words
          (ap (λ (l : Live). l.rows) is) c.new-report.ensures c.in_ok-pending.ensures,
      refl,
      ap (λ (l : Live). l.mode) is,
      refl,
      refl,
    )
