use Rattle.babel_canon.proofs.DifferingRows.{none_where_routes_same, route_differences_are_one}
use Rattle.babel_canon.proofs.laws.route_differences_are_one.Goals as goal

pub returns-clause-one : goal.returns-clause-one
returns-clause-one c = route_differences_are_one

pub returns-clause-none : goal.returns-clause-none
returns-clause-none c = none_where_routes_same
