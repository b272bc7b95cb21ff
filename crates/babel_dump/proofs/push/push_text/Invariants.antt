-- What was appended, and the octets that are left, are all of it.
use Rattle.std.proofs.Common.{◌≡◌, ◌+◌, ◌≤◌, ◌++◌, drop, vec_len, vec_capacity}
use Rattle.babel_dump.proofs.push.push_text.Given as goal

abbrev pub invariant-loop-octet : goal.invariant-loop-octet
invariant-loop-octet l = record {
  text : l.buffer.items ++ drop l.octet-index l.text ≡ l.initial.buffer.items ++ l.text;
  took : vec_len l.buffer ≤ vec_len l.initial.buffer + l.octet-index;
  room : vec_capacity l.initial.buffer ≤ vec_capacity l.buffer;
}
