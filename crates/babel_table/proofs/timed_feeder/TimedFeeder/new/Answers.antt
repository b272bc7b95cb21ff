-- A feeder that was fed nothing has heard nothing, by its settings.
use Rattle.std.proofs.Common.{◌≡◌, [], ◌∙◌, ap, refl}
use Rattle.babel_table.specs.Live.{Live}
use Rattle.babel_table.specs.declared.so_far.SoFar.{SoFar}
use Rattle.babel_table.proofs.FeedLaws.{taken-none}
use Rattle.babel_table.proofs.TimedLaws.{heard-none}
use Rattle.babel_table.proofs.timed_feeder.TimedFeeder.new.Goals as goal

pub returns : goal.returns
returns c =
    let so_far : SoFar = c.in_ok-so_far.so_far.value in
    let rows : Live = so_far.rows in
    let kept = c.in_ok-so_far.ensures.ok in
    let is : rows ≡ _ = ap (λ (s : SoFar). s.rows) kept ∙ c.in_time-rows.ensures in (
      heard-none _ refl refl (ap (λ (l : Live). l.runs) is) (ap (λ (l : Live). l.words) is)
          (taken-none c.args.limits rows.mode c.args.sender rows.rows so_far.report [] rows.runs rows.factor rows.when.time rows.words (ap (λ (l : Live). l.rows) is)
          (ap (λ (s : SoFar). s.report) kept ∙ c.new-report.ensures) refl),
      refl,
      ap (λ (l : Live). l.mode) is,
      refl,
      ap (λ (l : Live). l.factor) is,
      refl,
    )
