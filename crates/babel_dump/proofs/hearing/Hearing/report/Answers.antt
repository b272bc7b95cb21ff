use Rattle.std.proofs.Common.{◌≡◌, subst}
use Rattle.babel_timeline.specs.Hearing.{report_of}
use Rattle.babel_dump.proofs.SpeakerLaws.{speaker_order}
use Rattle.babel_dump.proofs.hearing.Hearing.report.Goals as goal

pub returns : goal.returns
returns c = subst (λ k. c.report.result ≡ report_of k c.args.self.now.teller.heard.entries c.args.speaker) speaker_order c.report.ensures
