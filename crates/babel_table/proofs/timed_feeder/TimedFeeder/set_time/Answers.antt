-- Only the time changes.
use Rattle.std.proofs.Common.{ap}
use Rattle.babel_table.specs.Feeding.{Progress}
use Rattle.babel_table.proofs.TimedLaws.{timed}
use Rattle.babel_table.proofs.timed_feeder.TimedFeeder.set_time.Goals as goal

pub returns : goal.returns
returns c = rw (c.set_time.ensures, c.deref_mut.ensures.value) (ap (λ (p : Progress). timed p c.args.time) c.self.view_is)
