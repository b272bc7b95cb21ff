use Rattle.std.proofs.Common.{◌≡◌}
use Rattle.babel_capture.specs.Headers.{past_headers}
use Rattle.babel_capture.specs.Layers.{next_header}
use Rattle.babel_capture.proofs.headers.NextHeader.past_all.Given as goal

abbrev pub invariant-loop : goal.invariant-loop
invariant-loop l = next_header l.header ≡ past_headers l.counter (next_header l.initial.self)
