-- The laws are lemmas of HearingLaws.
use Rattle.babel_selection.proofs.HearingLaws.{begins_counts, hello_keeps_counts}
use Rattle.babel_selection.proofs.laws.hellos_are_counted.Goals as goal

pub returns-clause-begun : goal.returns-clause-begun
returns-clause-begun g c = begins_counts g.S.Ord.cmp

pub returns-clause-hello : goal.returns-clause-hello
returns-clause-hello g c = hello_keeps_counts g.S.Ord.cmp g.met.S.Sender.exact
