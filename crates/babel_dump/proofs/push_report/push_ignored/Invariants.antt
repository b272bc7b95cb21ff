use Rattle.std.proofs.Common.{◌≡◌, ◌+◌, ◌*◌, ◌≤◌, ◌++◌, take, vec_len, vec_capacity}
use Rattle.babel_dump.specs.TextParts.{ignored_lines}
use Rattle.babel_dump.proofs.push_report.push_ignored.Given as goal

abbrev pub invariant-loop-reason : goal.invariant-loop-reason
invariant-loop-reason l = record {
  text : l.buffer.items ≡ l.initial.buffer.items ++ ignored_lines l.report (take l.reason-index l.reasons);
  took : vec_len l.buffer ≤ vec_len l.initial.buffer + 75 * l.reason-index;
  room : vec_capacity l.initial.buffer ≤ vec_capacity l.buffer;
}
