-- What was told first was taken.
use Rattle.std.proofs.Common.{◌++◌, List, take}
use Rattle.babel_timeline.specs.declared.telling.Telling.{Telling}
use Rattle.babel_dump.specs.EventsRun.{AreOthers}
use Rattle.babel_dump.specs.declared.speaker.Speaker.{Speaker}
use Rattle.babel_dump.proofs.other_sources.keep_changes.Given as goal

abbrev pub invariant-loop-telling : goal.invariant-loop-telling
invariant-loop-telling l =
    (earlier : List (Telling Speaker)) → AreOthers l.dst l.since.moment earlier l.fn.held → AreOthers l.dst l.since.moment (earlier ++ take l.telling-index l.told) l.held
