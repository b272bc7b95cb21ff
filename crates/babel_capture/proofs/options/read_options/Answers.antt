use Rattle.std.proofs.Common.{◌∙◌, ap, refl, add-one}
use Rattle.babel_capture.specs.Options.{past_option, past_options}
use Rattle.babel_capture.proofs.options.read_options.Goals as goal

pub loop-init : goal.loop-init
unfolding past_options
loop-init c = refl

pub loop-preserved : goal.loop-preserved
unfolding past_options
loop-preserved c = rw add-one (c.past_option-options.ensures ∙ ap (past_option c.args.order) c.loop.invariant)
