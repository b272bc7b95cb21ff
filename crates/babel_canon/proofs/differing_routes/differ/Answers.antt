use Rattle.std.proofs.Common.{sym, ◌∙◌}
use Rattle.babel_canon.proofs.JoinedRows.{differ_by}
use Rattle.babel_canon.proofs.differing_routes.differ.Goals as goal

pub returns : goal.returns
returns c = c.is_ne.ensures ∙ sym (differ_by c.args.left.now c.args.right.now c.cmp.result c.cmp.ensures)
