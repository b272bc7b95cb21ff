-- What is kept is by the order of nodes.
use Rattle.std.proofs.Common.{rules, ◌≡◌, true, ap, ◌∙◌}
use Rattle.std.specs.declared.cmp.Ordering.{Ordering}
use Rattle.babel_selection.specs.Hearing.{entry_at, last_kept}
use Rattle.babel_dump.specs.LinksTold.{row_with}
use Rattle.babel_dump.specs.Nodes.{node_cmp}
use Rattle.babel_dump.specs.contracts.node.NodeOrd.TheImpl.{ghosts}
use Rattle.babel_dump.specs.declared.link_row.LinkRow.{LinkRow}
use Rattle.babel_dump.specs.declared.node.Node.{Node}
use Rattle.babel_dump.proofs.NodeLaws.{node_order}
use Rattle.babel_dump.proofs.links.Judged.row.Goals as goal

by_order : (row : (Node → Node → Ordering) → LinkRow) (it : LinkRow) → it ≡ row ghosts.cmp → it ≡ row node_cmp
by_order row it is = is ∙ ap row node_order

pub returns : goal.returns
returns c =
    let pair = c.args.pair.now in
    by_order
    (λ cmp. row_with c.args.self.now.factor c.args.self.now.moment (entry_at cmp c.args.heard.now.hellos pair.neighbour) (last_kept cmp c.args.heard.now.ihus pair.neighbour pair.router true) (pair, c.args.said.now))
    _ (search rules)
