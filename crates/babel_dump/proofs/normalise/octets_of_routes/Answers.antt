use Rattle.babel_dump.proofs.Forms.{routes_of}
use Rattle.babel_dump.proofs.normalise.octets_of_routes.Goals as goal

pub returns-clause-ok : goal.returns-clause-ok
returns-clause-ok c =
    routes_of c.args.reading c.args.view c.args.body c.args.table c.seen.result c.seen.ensures
    c.route_octets_tell_routes.ensures.headline c.entries.ensures.valid c.octets.ensures.valid c.rows.ensures.valid c.in_ok-octets.octets.items c.in_ok-octets.ensures
