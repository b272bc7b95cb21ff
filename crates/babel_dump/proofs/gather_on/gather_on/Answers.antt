-- The capture was read.
use Rattle.babel_dump.proofs.AskedRuns.{gave_so, keeps_left}
use Rattle.babel_dump.proofs.gather_on.gather_on.Goals as goal

pub returns-in-Ok-clause-made : goal.returns-in-Ok-clause-made
returns-in-Ok-clause-made g c =
    gave_so c.args.each.now (g.R.Read.remaining c.args.reader) _ _ _ _ c.in-Ok.read c.new-begun.ensures.begins c.begins.ensures c.in_default.not-Dump
    (keeps_left _ _ _ c.into_device.ensures.gives c.new-begun.ensures.kept) c.in-Ok.ensures.made
