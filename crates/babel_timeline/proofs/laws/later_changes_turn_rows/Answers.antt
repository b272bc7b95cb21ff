-- The law is a lemma of LaterLaws.
use Rattle.babel_timeline.proofs.LaterLaws.{turn_rows}
use Rattle.babel_timeline.proofs.laws.later_changes_turn_rows.Goals as goal

pub returns : goal.returns
returns g c = turn_rows g.S.Ord.cmp
