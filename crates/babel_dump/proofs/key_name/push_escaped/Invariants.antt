-- What was appended, and the text of the octets that are left, are all of it.
use Rattle.std.proofs.Common.{◌≡◌, ◌++◌, drop}
use Rattle.babel_dump.specs.NameText.{escaped}
use Rattle.babel_dump.proofs.key_name.push_escaped.Given as goal

abbrev pub invariant-loop-octet : goal.invariant-loop-octet
invariant-loop-octet l = record {
  text : l.line.items ++ escaped l.escape (drop l.octet-index l.name) ≡ l.initial.line.items ++ escaped l.escape l.name;
}
