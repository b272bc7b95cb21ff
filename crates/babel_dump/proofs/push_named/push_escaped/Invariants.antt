-- What was appended, and the text of the octets that are left, are all of it; each took five at most.
use Rattle.std.proofs.Common.{◌≡◌, ◌≤◌, ◌+◌, ◌*◌, ◌++◌, drop, vec_capacity, vec_len}
use Rattle.babel_dump.specs.NameText.{escaped}
use Rattle.babel_dump.proofs.push_named.push_escaped.Given as goal

abbrev pub invariant-loop-octet : goal.invariant-loop-octet
invariant-loop-octet l = record {
  text : l.buffer.items ++ escaped l.escape (drop l.octet-index l.name) ≡ l.initial.buffer.items ++ escaped l.escape l.name;
  took : vec_len l.buffer ≤ vec_len l.initial.buffer + 5 * l.octet-index;
  capacity : vec_capacity l.initial.buffer ≤ vec_capacity l.buffer;
}
