-- What has expired of both families.
use Rattle.std.proofs.Common.{arith, length-append}
use Rattle.babel_table.proofs.ExpiredLaws.{length-lasting}
use Rattle.babel_table.proofs.kept_rows.KeptRows.count_expired.Goals as goal

pub returns : goal.returns
returns c =
    let v4 = c.self.inside.v4 in
    let v6 = c.self.inside.v6 in
    rw (← c.self.view_is) (omega (arith, c.count_expired.ensures.count, c.count_expired-2.ensures.count, length-lasting c.args.moment.now v4 v6, length-append v4 v6))
