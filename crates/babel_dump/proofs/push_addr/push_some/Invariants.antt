-- What was appended, and the text of the groups that are left, are all of it.
use Rattle.std.proofs.Common.{◌≡◌, ◌-◌, ◌+◌, ◌*◌, ◌≤◌, ◌++◌, take, vec_len, vec_capacity}
use Rattle.babel_prefix.specs.Text.{groups_from, groups_text}
use Rattle.babel_dump.proofs.push_addr.push_some.Given as goal

abbrev pub invariant-loop-place : goal.invariant-loop-place
invariant-loop-place l = record {
  text : l.buffer.items ++ groups_text (take (l.place - l.last) (groups_from l.place l.bits))
      ≡ l.initial.buffer.items ++ groups_text (take l.count (groups_from l.below l.bits));
  took : vec_len l.buffer + 5 * (l.place - l.last) ≤ vec_len l.initial.buffer + 5 * l.count;
  room : vec_capacity l.initial.buffer ≤ vec_capacity l.buffer;
}
