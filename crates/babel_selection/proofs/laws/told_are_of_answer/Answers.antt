-- The law is a lemma of ToldLaws.
use Rattle.babel_selection.proofs.ToldLaws.{told_are_of_answer}
use Rattle.babel_selection.proofs.laws.told_are_of_answer.Goals as goal

pub returns : goal.returns
returns c = told_are_of_answer
