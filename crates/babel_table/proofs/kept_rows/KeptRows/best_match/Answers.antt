-- The best match among the rows of the addresses' family is that among all.
use Rattle.std.proofs.Common.{◌≡◌}
use Rattle.babel_prefix.specs.declared.family.Family.TheVariants.{V4, V6}
use Rattle.babel_table.specs.Live.{live_rows}
use Rattle.babel_table.proofs.KeptLaws.{of-live_rows, live_rows-append, match-v4, match-v6}
use Rattle.babel_table.proofs.kept_rows.KeptRows.best_match.Goals as goal

pub returns-in-V4 : goal.returns-in-V4
returns-in-V4 c =
    let wipes = c.args.wipes in
    let v4 = c.self.inside.v4 in
    let v6 = c.self.inside.v6 in
    let of : c.args.dst.now.family ≡ V4 = cc in
    rw (← c.self.view_is, live_rows-append wipes v4 v6)
    (match-v4 c.best_match.result (live_rows wipes v4) (live_rows wipes v6) c.args.dst.now c.args.src.now (of-live_rows V6 wipes v6 c.self.invariant.1) of c.best_match.ensures)

pub returns-in-V6 : goal.returns-in-V6
returns-in-V6 c =
    let wipes = c.args.wipes in
    let v4 = c.self.inside.v4 in
    let v6 = c.self.inside.v6 in
    let of : c.args.dst.now.family ≡ V6 = cc in
    rw (← c.self.view_is, live_rows-append wipes v4 v6)
    (match-v6 c.best_match-in-V6.result (live_rows wipes v4) (live_rows wipes v6) c.args.dst.now c.args.src.now (of-live_rows V4 wipes v4 c.self.invariant.0) of c.best_match-in-V6.ensures)
