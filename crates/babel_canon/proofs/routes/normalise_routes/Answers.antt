use Rattle.std.proofs.lemmas.Result.{err_from_is_err_and}
use Rattle.babel_canon.specs.Sent.{sent}
use Rattle.babel_canon.proofs.Normal.{of_dump_routes}
use Rattle.babel_canon.proofs.RoutesHeadline.{told}
use Rattle.babel_canon.proofs.routes.normalise_routes.Goals as goal

pub returns-in_err-table-clause-err : goal.returns-in_err-table-clause-err
returns-in_err-table-clause-err c =
    let exit = err_from_is_err_and c.from_residual.result c.from_residual.ensures.1 in
    rw (exit.1, exit.2) (of_dump_routes c.args.limits c.args.mode (sent c.args.sender c.args.dump.now) c.in_err-table.field-0.0 c.in_err-table.ensures.fault)

pub returns-clause-ok : goal.returns-clause-ok
returns-clause-ok c =
    told c.args.view c.args.limits c.args.mode c.args.body c.entries.ensures.valid c.octets.ensures.valid (sent c.args.sender c.args.dump.now) c.in_ok-octets.octets.items
    c.in_ok-table.table c.seen-seen.result c.in_ok-table.ensures.ok.0 c.in_ok-table.ensures.ok.1 c.rows.ensures.valid c.seen-seen.ensures c.in_ok-octets.ensures
