use Rattle.babel_canon.proofs.RoutesHeadline.{routes_headline, same_routes_answer}
use Rattle.babel_canon.proofs.laws.route_octets_tell_routes.Goals as goal

pub returns-clause-headline : goal.returns-clause-headline
returns-clause-headline c = routes_headline

pub returns-clause-answers : goal.returns-clause-answers
returns-clause-answers c = same_routes_answer
