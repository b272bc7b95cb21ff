-- Of what was told first, what was answered before the moment was taken.
use Rattle.std.proofs.Common.{◌≡◌, ◌++◌, List, Some, take}
use Rattle.babel_timeline.specs.declared.telling.Telling.{Telling}
use Rattle.babel_dump.specs.EventsRun.{told_early}
use Rattle.babel_dump.specs.Followed.{HasAnswers}
use Rattle.babel_dump.specs.declared.speaker.Speaker.{Speaker}
use Rattle.babel_dump.proofs.since.Since.keep_early.Given as goal

abbrev pub invariant-loop-telling : goal.invariant-loop-telling
invariant-loop-telling l = record {
  moment : l.self.moment ≡ l.initial.self.moment;
  has_come : l.self.has_come ≡ l.initial.self.has_come;
  answers : (earlier : List (Telling Speaker)) → HasAnswers earlier l.initial.self → HasAnswers (earlier ++ told_early (Some l.moment) (take l.telling-index l.heard)) l.self;
}
