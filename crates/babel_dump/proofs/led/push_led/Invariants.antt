-- What was appended, and the led octets that are left, are all of it.
use Rattle.std.proofs.Common.{◌≡◌, ◌++◌, drop, true}
use Rattle.babel_dump.specs.Led.{led}
use Rattle.babel_dump.proofs.led.push_led.Given as goal

abbrev pub invariant-loop-octet : goal.invariant-loop-octet
invariant-loop-octet l = record {
  text : l.text.items ++ led l.format l.lead l.is_first (drop l.octet-index l.lines) ≡ l.initial.text.items ++ led l.format l.lead true l.lines;
}
