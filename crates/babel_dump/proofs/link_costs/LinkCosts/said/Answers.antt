-- What is kept is by the order of nodes.
use Rattle.std.proofs.Common.{rules, ◌≡◌, ℕ, Option, true, ap, ◌∙◌}
use Rattle.std.specs.declared.cmp.Ordering.{Ordering}
use Rattle.std.specs.Option.{option_and_then}
use Rattle.babel_selection.specs.Hearing.{last_kept}
use Rattle.babel_selection.specs.Links.{rxcost_at}
use Rattle.babel_dump.specs.Nodes.{node_cmp}
use Rattle.babel_dump.specs.contracts.node.NodeOrd.TheImpl.{ghosts}
use Rattle.babel_dump.specs.declared.node.Node.{Node}
use Rattle.babel_dump.proofs.NodeLaws.{node_order}
use Rattle.babel_dump.proofs.link_costs.LinkCosts.said.Goals as goal

by_order : (said : (Node → Node → Ordering) → Option ℕ) (it : Option ℕ) → it ≡ said ghosts.cmp → it ≡ said node_cmp
by_order said it is = is ∙ ap said node_order

pub returns : goal.returns
returns c =
    let self = c.args.self.now in
    by_order (λ cmp. option_and_then (rxcost_at self.judged.factor self.judged.moment) (last_kept cmp self.links.now.ihus c.args.router.now c.args.neighbour.now true)) _ (search rules)
