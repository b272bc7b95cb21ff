-- A row that expires is one whose word does.
use Rattle.std.proofs.Common.{arith}
use Rattle.babel_table.specs.Live.{Asked}
use Rattle.babel_table.proofs.TimeLaws.{expired-words}
use Rattle.babel_table.proofs.live.LiveRows.count_expired.Goals as goal

pub returns : goal.returns
returns c =
    let asked : Asked = record { timing = c.self.inside.clock; mode = c.self.inside.mode; wipes = c.self.inside.wipes; time = c.args.time } in
    let count = rw c.new-moment.ensures at c.count_expired.ensures in
    rw (← c.self.view_is) (omega (arith, count, expired-words asked c.self.inside.kept))
