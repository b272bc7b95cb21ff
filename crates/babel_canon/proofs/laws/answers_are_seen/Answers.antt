use Rattle.babel_canon.proofs.Views.{seen_answers}
use Rattle.babel_canon.proofs.laws.answers_are_seen.Goals as goal

pub returns : goal.returns
returns c = seen_answers
