use Rattle.std.proofs.Common.{◌∙◌, ap, refl, add-one}
use Rattle.babel_capture.specs.Headers.{past_header, past_headers}
use Rattle.babel_capture.proofs.headers.NextHeader.past_all.Goals as goal

pub loop-init : goal.loop-init
unfolding past_headers
loop-init c = refl

pub loop-preserved : goal.loop-preserved
unfolding past_headers
loop-preserved c = rw add-one (c.past_one-header.ensures ∙ ap past_header c.loop.invariant)
