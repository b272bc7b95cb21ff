-- A fault was the dump's before.
use Rattle.std.proofs.Common.{sym, ap, ◌∙◌}
use Rattle.babel_table.specs.Feeding.{Progress}
use Rattle.babel_table.proofs.FeedLaws.{failed-finish}
use Rattle.babel_table.proofs.feeder.Feeder.check_end.Goals as goal

pub returns-in-Some-clause-fault : goal.returns-in-Some-clause-fault
returns-in-Some-clause-fault c = failed-finish c.args.self.now c.in-Some.fault (ap (λ (p : Progress). p.fault) (sym c.self.view_is) ∙ c.in-Some.is)
