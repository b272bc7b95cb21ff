-- The laws are lemmas of WatchLaws.
use Rattle.babel_timeline.proofs.WatchLaws.{begins, hello_keeps, silence_keeps, silent_told}
use Rattle.babel_timeline.proofs.laws.silent_are_told.Goals as goal

pub returns-clause-begun : goal.returns-clause-begun
returns-clause-begun g c = begins g.S.Ord.cmp g.met.S.Ord.total g.met.S.Sender.exact

pub returns-clause-hello : goal.returns-clause-hello
returns-clause-hello g c = hello_keeps g.S.Ord.cmp g.met.S.Ord.total g.met.S.Sender.exact

pub returns-clause-silence : goal.returns-clause-silence
returns-clause-silence g c = silence_keeps g.S.Ord.cmp g.met.S.Ord.total g.met.S.Sender.exact

pub returns-clause-told : goal.returns-clause-told
returns-clause-told g c = silent_told g.S.Ord.cmp g.met.S.Ord.total g.met.S.Sender.exact
