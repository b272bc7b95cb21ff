-- The laws are lemmas of BestLaws.
use Rattle.babel_timeline.proofs.BestLaws.{best_row, best_said}
use Rattle.babel_timeline.proofs.laws.answers_are_best.Goals as goal

pub returns-clause-rows : goal.returns-clause-rows
returns-clause-rows g c = best_row g.S.Ord.cmp

pub returns-clause-said : goal.returns-clause-said
returns-clause-said g c = best_said g.S.Ord.cmp g.met.S.Ord.total g.met.S.Sender.exact
