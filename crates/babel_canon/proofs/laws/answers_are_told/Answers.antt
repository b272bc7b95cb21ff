use Rattle.babel_canon.proofs.AnswersTell.{answers_are_told, settled_is_one}
use Rattle.babel_canon.proofs.TableAnswers.{answer_is_one, table_answers}
use Rattle.babel_canon.proofs.laws.answers_are_told.Goals as goal

pub returns-clause-table : goal.returns-clause-table
returns-clause-table c = table_answers

pub returns-clause-one : goal.returns-clause-one
returns-clause-one c = answer_is_one

pub returns-clause-settled : goal.returns-clause-settled
returns-clause-settled c = settled_is_one

pub returns-clause-headline : goal.returns-clause-headline
returns-clause-headline c = answers_are_told
