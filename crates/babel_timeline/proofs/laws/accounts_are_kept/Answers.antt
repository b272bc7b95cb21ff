-- The laws are lemmas of AccountLaws.
use Rattle.babel_timeline.proofs.AccountLaws.{announcing, begins, expiring, retracting, silence}
use Rattle.babel_timeline.proofs.laws.accounts_are_kept.Goals as goal

pub returns-clause-begun : goal.returns-clause-begun
returns-clause-begun g c = begins g.S.Ord.cmp g.met.S.Ord.total g.met.S.Sender.exact

pub returns-clause-announcing : goal.returns-clause-announcing
returns-clause-announcing g c = announcing g.S.Ord.cmp g.met.S.Ord.total g.met.S.Sender.exact

pub returns-clause-retracting : goal.returns-clause-retracting
returns-clause-retracting g c = retracting g.S.Ord.cmp g.met.S.Ord.total g.met.S.Sender.exact

pub returns-clause-silence : goal.returns-clause-silence
returns-clause-silence g c = silence g.S.Ord.cmp g.met.S.Ord.total g.met.S.Sender.exact

pub returns-clause-expiring : goal.returns-clause-expiring
returns-clause-expiring g c = expiring g.S.Ord.cmp g.met.S.Ord.total g.met.S.Sender.exact
