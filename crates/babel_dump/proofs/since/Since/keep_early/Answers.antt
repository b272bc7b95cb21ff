use Rattle.std.proofs.Common.{◌++◌, ◌∙◌, Some, subst, take}
use Rattle.babel_dump.specs.EventsRun.{told_early}
use Rattle.babel_dump.specs.Followed.{HasAnswers}
use Rattle.babel_dump.proofs.SinceLaws.{early_next}
use Rattle.babel_dump.proofs.EventsRuns.{Tellings}
use Rattle.babel_dump.proofs.since.Since.keep_early.Goals as goal

pub loop-telling-preserved : goal.loop-telling-preserved
loop-telling-preserved c = record {
  moment = c.keep.ensures.same.0 ∙ c.loop-telling.invariant.moment;
  has_come = c.keep.ensures.same.1 ∙ c.loop-telling.invariant.has_come;
  answers = λ earlier was. subst (λ (t : Tellings). HasAnswers t c.keep.new.self)
      (early_next c.args.moment c.args.heard.now c.loop-telling.telling-index c.telling-item.result c.loop-telling-test.true c.telling-item.is earlier)
      (c.in_ok-keep.ensures.answers (earlier ++ told_early (Some c.args.moment) (take c.loop-telling.telling-index c.args.heard.now)) (c.loop-telling.invariant.answers earlier was));
}
