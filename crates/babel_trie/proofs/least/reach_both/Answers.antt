-- Both passes are so over the nodes that are left, and each over those that the other makes.
use Rattle.std.proofs.Common.{◌≤◌, sym, subst, arith}
use Rattle.babel_trie.specs.Pass.{IsPassOver, ahead_of, rows_left}
use Rattle.babel_trie.proofs.PassLaws.{way-grows}
use Rattle.babel_trie.proofs.least.reach_both.Goals as goal

pub reach-requires-clause-pass : goal.reach-requires-clause-pass
reach-requires-clause-pass g c =
    let w = c.args.width in
    let nodes = c.args.table.now.nodes.items in
    let cut = c.give_up_from.ensures.nodes in
    let r = c.requires.pass in
    let enough : c.made.result ≤ cut.0 = omega (arith, c.max.ensures, cut.1) in
    (r.0, subst (λ xs. IsPassOver w g.L.Rows.rows r.0 xs c.leave.new.self) (sym cut.2) (c.made.ensures.enough w cut.0 r.0 nodes enough (c.leave.ensures.pass w r.0 nodes r.1)))

pub reach-requires-2-clause-pass : goal.reach-requires-2-clause-pass
reach-requires-2-clause-pass g c =
    let w = c.args.width in
    let nodes = c.args.table.now.nodes.items in
    let cut = c.give_up_from.ensures.nodes in
    let other = c.leave-2.new.self in
    let r = c.requires.other in
    let enough : c.made-2.result ≤ cut.0 = omega (arith, c.max.ensures, cut.1) in
    let left = subst (λ xs. IsPassOver w g.R.Rows.rows r.0 xs other) (sym cut.2) (c.made-2.ensures.enough w cut.0 r.0 nodes enough (c.leave-2.ensures.pass w r.0 nodes r.1)) in
    (r.0, way-grows w r.0 (rows_left g.R.Rows.rows other) c.give_up_from.new.self.nodes.items c.reach.new.table.nodes.items other.now (ahead_of other) c.in_ok-next.ensures.keeps left)

pub returns-clause-pass : goal.returns-clause-pass
returns-clause-pass g c rows p =
    let w = c.args.width in
    let nodes = c.args.table.now.nodes.items in
    let cut = c.give_up_from.ensures.nodes in
    let pass = c.reach.new.self in
    let enough : c.made.result ≤ cut.0 = omega (arith, c.max.ensures, cut.1) in
    let left = subst (λ xs. IsPassOver w g.L.Rows.rows rows xs c.leave.new.self) (sym cut.2) (c.made.ensures.enough w cut.0 rows nodes enough (c.leave.ensures.pass w rows nodes p)) in
    way-grows w rows (rows_left g.L.Rows.rows pass) c.reach.new.table.nodes.items c.reach-2.new.table.nodes.items pass.now
    (ahead_of pass) c.in_ok-other_next.ensures.keeps (c.in_ok-next.ensures.pass rows left)

pub returns-clause-other : goal.returns-clause-other
returns-clause-other g c rows p =
    let w = c.args.width in
    let nodes = c.args.table.now.nodes.items in
    let cut = c.give_up_from.ensures.nodes in
    let other = c.leave-2.new.self in
    let enough : c.made-2.result ≤ cut.0 = omega (arith, c.max.ensures, cut.1) in
    let left = subst (λ xs. IsPassOver w g.R.Rows.rows rows xs other) (sym cut.2) (c.made-2.ensures.enough w cut.0 rows nodes enough (c.leave-2.ensures.pass w rows nodes p)) in
    c.in_ok-other_next.ensures.pass rows (way-grows w rows (rows_left g.R.Rows.rows other) c.give_up_from.new.self.nodes.items
    c.reach.new.table.nodes.items other.now (ahead_of other) c.in_ok-next.ensures.keeps left)
