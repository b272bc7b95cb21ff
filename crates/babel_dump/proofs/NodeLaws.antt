-- The order of nodes is the stated one.
use Rattle.std.proofs.Common.{◌≡◌, rules}
use Rattle.std.proofs.Math.Path.{fun_ext}
use Rattle.babel_dump.specs.Nodes.{node_cmp}
use Rattle.babel_dump.specs.contracts.node.NodeOrd.TheImpl.{ghosts}
use Rattle.babel_dump.specs.declared.node.Node.{Node}

one_order : (a b : Node) → ghosts.cmp a b ≡ node_cmp a b
one_order a b = search rules

pub node_order : ghosts.cmp ≡ node_cmp
node_order = fun_ext (λ a. fun_ext (λ b. one_order a b))
