-- The laws are lemmas of HearingLaws.
use Rattle.babel_selection.proofs.HearingLaws.{begins_last, ihu_keeps_last}
use Rattle.babel_selection.proofs.laws.ihus_are_last.Goals as goal

pub returns-clause-begun : goal.returns-clause-begun
returns-clause-begun g c = begins_last g.S.Ord.cmp

pub returns-clause-ihu : goal.returns-clause-ihu
returns-clause-ihu g c = ihu_keeps_last g.S.Ord.cmp
