-- All that differs is told.
use Rattle.std.proofs.Common.{◌∙◌}
use Rattle.babel_canon.specs.Joined.{differing}
use Rattle.babel_dump.proofs.routes.found_route_differences.Goals as goal

pub returns-clause-ok : goal.returns-clause-ok
returns-clause-ok c = record {
  differences = differing c.args.seen.left.rows c.args.seen.right.rows;
  are_differences = c.compared_routes-outcome.ensures.are;
  text_is = c.rows.ensures.text c.args.format.now ∙ c.in_ok-rows.ensures;
  outcome_is = rw c.rows.ensures.outcome c.compared_routes-outcome.ensures.outcome;
}
