-- What was appended, and the text of the octets that are left, are all of it.
use Rattle.std.proofs.Common.{◌≡◌, ◌++◌, drop, flat_map}
use Rattle.babel_dump.specs.KeyText.{json_octet}
use Rattle.babel_dump.proofs.key_name.push_json_octets.Given as goal

abbrev pub invariant-loop-octet : goal.invariant-loop-octet
invariant-loop-octet l = record {
  text : l.line.items ++ flat_map json_octet (drop l.octet-index l.octets) ≡ l.initial.line.items ++ flat_map json_octet l.octets;
}
