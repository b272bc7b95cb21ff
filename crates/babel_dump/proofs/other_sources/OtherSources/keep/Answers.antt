use Rattle.std.proofs.Common.{◌++◌, subst}
use Rattle.std.specs.Prelude.{OnOk}
use Rattle.babel_dump.specs.EventsRun.{AreOthers}
use Rattle.babel_dump.proofs.EventsRuns.{Tellings}
use Rattle.babel_dump.proofs.other_sources.OtherSources.keep.Goals as goal

pub returns-clause-held : goal.returns-clause-held
returns-clause-held c =
    let old = c.args.self.now in
    subst (λ (t : Tellings). OnOk c.keep_changes.result ((earlier : Tellings) → AreOthers old.pair.dst c.args.since.now.moment earlier old.held
    → AreOthers old.pair.dst c.args.since.now.moment (earlier ++ t) c.keep_changes.new.held)) c.deref.ensures.value c.keep_changes.ensures
