use Rattle.std.proofs.Common.{◌≡◌, [], false}
use Rattle.std.specs.Prelude.{None}
use Rattle.babel_capture.specs.Layers.{options}
use Rattle.babel_capture.specs.Options.{past_options}
use Rattle.babel_capture.proofs.options.read_options.Given as goal

abbrev pub invariant-loop : goal.invariant-loop
invariant-loop l = options l.options ≡ past_options l.counter l.order (record { name = []; resolution = None; offset = None; octets = l.octets; is_bad = false })
