use Rattle.std.proofs.Common.{◌∙◌, ap, refl, add-one}
use Rattle.babel_capture.specs.Ethernet.{past_tag, past_tags}
use Rattle.babel_capture.proofs.ethernet.Payload.past_tags.Goals as goal

pub loop-init : goal.loop-init
unfolding past_tags
loop-init c = refl

pub loop-preserved : goal.loop-preserved
unfolding past_tags
loop-preserved c = rw add-one (c.past_tag-payload.ensures ∙ ap past_tag c.loop.invariant)
