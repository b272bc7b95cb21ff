use Rattle.std.proofs.Common.{◌≡◌, ◌+◌, ◌*◌, ◌≤◌, ◌++◌, length, take, vec_len, vec_capacity}
use Rattle.babel_dump.specs.JsonText.{comma_separated, counted_objects}
use Rattle.babel_dump.proofs.JsonLaws.{comma_after}
use Rattle.babel_dump.proofs.push_report.push_counted_json.Given as goal

abbrev pub invariant-loop-reason : goal.invariant-loop-reason
invariant-loop-reason g l = record {
  text : l.buffer.items ≡ l.initial.buffer.items ++ comma_separated (counted_objects g.R.CountedReason.name_of (g.R.CountedReason.counted l.report) (take l.reason-index l.reasons));
  comma : l.comma ≡ comma_after (counted_objects g.R.CountedReason.name_of (g.R.CountedReason.counted l.report) (take l.reason-index l.reasons));
  short : length l.comma ≤ 1;
  took : vec_len l.buffer ≤ vec_len l.initial.buffer + 90 * l.reason-index;
  room : vec_capacity l.initial.buffer ≤ vec_capacity l.buffer;
}
