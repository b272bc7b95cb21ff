-- What is no answer leaves what was answered.
use Rattle.std.proofs.Common.{ap, refl}
use Rattle.babel_timeline.specs.Telling.{answer_after}
use Rattle.babel_dump.specs.Speakers.{speaker_cmp}
use Rattle.babel_dump.proofs.SinceLaws.{other_kept}
use Rattle.babel_dump.proofs.since.Since.keep.Goals as goal

pub returns-in-Change-clause-answers : goal.returns-in-Change-clause-answers
returns-in-Change-clause-answers c earlier was =
    other_kept c.args.moment earlier c.args.self.now c.args.self.now was c.args.told.now (λ speaker answer. ap (answer_after speaker_cmp speaker answer) c.in-Change.is) refl

pub returns-in-Request-clause-answers : goal.returns-in-Request-clause-answers
returns-in-Request-clause-answers c earlier was =
    other_kept c.args.moment earlier c.args.self.now c.args.self.now was c.args.told.now (λ speaker answer. ap (answer_after speaker_cmp speaker answer) c.in-Request.is) refl

pub returns-in-Silent-clause-answers : goal.returns-in-Silent-clause-answers
returns-in-Silent-clause-answers c earlier was =
    other_kept c.args.moment earlier c.args.self.now c.args.self.now was c.args.told.now (λ speaker answer. ap (answer_after speaker_cmp speaker answer) c.in-Silent.is) refl

pub returns-in-Returns-clause-answers : goal.returns-in-Returns-clause-answers
returns-in-Returns-clause-answers c earlier was =
    other_kept c.args.moment earlier c.args.self.now c.args.self.now was c.args.told.now (λ speaker answer. ap (answer_after speaker_cmp speaker answer) c.in-Returns.is) refl
