use Rattle.std.proofs.Common.{◌≡◌, subst}
use Rattle.std.specs.BTreeSet.{contains}
use Rattle.babel_dump.proofs.SpeakerLaws.{speaker_order}
use Rattle.babel_dump.proofs.hearing.Hearing.is_lost.Goals as goal

pub returns : goal.returns
returns c = subst (λ k. c.contains.result ≡ contains k c.args.self.now.lost c.args.speaker.now) speaker_order c.contains.ensures
