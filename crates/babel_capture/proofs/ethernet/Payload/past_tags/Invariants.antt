use Rattle.std.proofs.Common.{◌≡◌}
use Rattle.babel_capture.specs.Ethernet.{past_tags}
use Rattle.babel_capture.specs.Layers.{payload}
use Rattle.babel_capture.proofs.ethernet.Payload.past_tags.Given as goal

abbrev pub invariant-loop : goal.invariant-loop
invariant-loop l = payload l.payload ≡ past_tags l.counter (payload l.initial.self)
