use Rattle.babel_canon.proofs.Boxes.{boxes_answer, boxes_tell_apart}
use Rattle.babel_canon.proofs.laws.boxes_are_answers.Goals as goal

pub returns-clause-answer : goal.returns-clause-answer
returns-clause-answer c = boxes_answer

pub returns-clause-tell_apart : goal.returns-clause-tell_apart
returns-clause-tell_apart c = boxes_tell_apart
