-- The laws are lemmas of AccountLaws.
use Rattle.babel_timeline.proofs.AccountLaws.{say_each, say_held}
use Rattle.babel_timeline.proofs.laws.changes_say_what_is_held.Goals as goal

pub returns-clause-at_last : goal.returns-clause-at_last
returns-clause-at_last g c = say_held g.S.Ord.cmp g.met.S.Ord.total g.met.S.Sender.exact

pub returns-clause-each : goal.returns-clause-each
returns-clause-each g c = say_each g.S.Ord.cmp g.met.S.Ord.total g.met.S.Sender.exact
