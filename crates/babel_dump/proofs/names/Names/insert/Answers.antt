use Rattle.std.proofs.Common.{refl, rules}
use Rattle.babel_dump.proofs.NamesLaws.{inserts_by_order, inserts_router}
use Rattle.babel_dump.proofs.names.Names.insert.Goals as goal

pub returns-in_ok-before-in-Address : goal.returns-in_ok-before-in-Address
returns-in_ok-before-in-Address c =
    let put = c.in_ok-before-in-Address in
    rw c.in-Address.is (inserts_by_order c.args.self.now _ c.in-Address.addr c.args.name put.before _ put.ensures.old (search rules) put.ensures.updates.0 refl)

pub returns-in_ok-before-in-Router : goal.returns-in_ok-before-in-Router
returns-in_ok-before-in-Router c =
    let put = c.in_ok-before-in-Router in
    rw c.in-Router.is (inserts_router c.args.self.now _ c.in-Router.router_id c.args.name put.before _ put.ensures.old (search rules) put.ensures.updates.0 refl)
