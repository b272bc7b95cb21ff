-- The laws are lemmas of AccountLaws.
use Rattle.babel_timeline.proofs.AccountLaws.{each, leaving, left}
use Rattle.babel_timeline.proofs.laws.accounts_are_kept_by_wildcards.Goals as goal

pub returns-clause-begun : goal.returns-clause-begun
returns-clause-begun g c = leaving g.S.Ord.cmp g.met.S.Ord.total g.met.S.Sender.exact

pub returns-clause-each : goal.returns-clause-each
returns-clause-each g c = each g.S.Ord.cmp g.met.S.Ord.total g.met.S.Sender.exact

pub returns-clause-ended : goal.returns-clause-ended
returns-clause-ended g c = left g.S.Ord.cmp g.met.S.Ord.total g.met.S.Sender.exact
