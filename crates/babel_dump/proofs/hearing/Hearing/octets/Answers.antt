use Rattle.std.proofs.Common.{◌≡◌, subst}
use Rattle.babel_timeline.specs.Hearing.{octets_heard}
use Rattle.babel_dump.proofs.SpeakerLaws.{speaker_order}
use Rattle.babel_dump.proofs.hearing.Hearing.octets.Goals as goal

pub returns : goal.returns
returns c = subst (λ k. c.octets.result ≡ octets_heard k c.args.self.now.teller.heard.entries c.args.speaker) speaker_order c.octets.ensures
