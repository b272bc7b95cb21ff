-- Only the octets that are left can have an escape.
use Rattle.std.proofs.Common.{◌≡◌, drop}
use Rattle.babel_dump.specs.KeyText.{has_escape}
use Rattle.babel_dump.proofs.key_text.has_escape.Given as goal

abbrev pub invariant-loop-octet : goal.invariant-loop-octet
invariant-loop-octet l = record {
  left : has_escape l.file ≡ has_escape (drop l.octet-index l.file);
}
