use Rattle.std.proofs.Common.{◌++◌, ap, subst, take}
use Rattle.std.proofs.lemmas.List.{take_all}
use Rattle.babel_dump.specs.EventsRun.{AreOthers}
use Rattle.babel_dump.proofs.EventsRuns.{Tellings}
use Rattle.babel_dump.proofs.OthersHeld.{others_next}
use Rattle.babel_dump.proofs.other_sources.keep_changes.Goals as goal

pub loop-telling-preserved : goal.loop-telling-preserved
loop-telling-preserved c earlier was =
    subst (λ (t : Tellings). AreOthers c.args.dst.now c.args.since.now.moment t c.keep_telling.new.held)
    (others_next c.args.told.now c.loop-telling.telling-index c.telling-item.result c.loop-telling-test.true c.telling-item.is earlier)
    (c.in_ok-keep_telling.ensures (earlier ++ take c.loop-telling.telling-index c.args.told.now) (c.loop-telling.invariant earlier was))

pub returns : goal.returns
returns c earlier was =
    subst (λ (t : Tellings). AreOthers c.args.dst.now c.args.since.now.moment t c.loop-telling.held)
    (ap (λ (t : Tellings). earlier ++ t) (take_all c.loop-telling.telling-index c.args.told.now c.loop-telling-test.false)) (c.loop-telling.invariant earlier was)
